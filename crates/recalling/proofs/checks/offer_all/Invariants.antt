use Rattle.reading.specs.Progress.{progress}
use Rattle.recalling.specs.Remaining.{left}
use Rattle.rows.specs.Kept.{rows_lent}
use Rattle.recalling.proofs.Midway.{Midway}
use Rattle.recalling.proofs.checks.offer_all.Given as goal

abbrev pub invariant-loop-composed : goal.invariant-loop-composed
invariant-loop-composed l = Midway (rows_lent l.statement) (progress l.reading) (left l.composed-iterator)
