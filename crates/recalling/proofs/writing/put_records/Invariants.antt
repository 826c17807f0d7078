use Rattle.recalling.specs.Remaining.{left}
use Rattle.rows.specs.Kept.{rows_lent}
use Rattle.recalling.proofs.Putting.{Midway}
use Rattle.recalling.proofs.writing.put_records.Given as goal

abbrev pub invariant-loop-composed : goal.invariant-loop-composed
invariant-loop-composed g l =
    Midway (rows_lent l.statement) (g.O.Output.put l.initial.output) (g.O.Output.put l.output) (g.O.Output.places l.initial.output) (g.O.Output.places l.output) l.records (left l.composed-iterator)
