use Rattle.std.proofs.Common.{◌≡◌, take}
use Rattle.reading.specs.Progress.{progress}
use Rattle.table.specs.Rows.{held, Fills}
use Rattle.guarantee.proofs.Running.{Midway}
use Rattle.guarantee.proofs.runs.run.Given as goal

abbrev pub invariant-loop-call : goal.invariant-loop-call
invariant-loop-call l =
    Midway (take l.call-index l.calls) (held l.answers.rows.now l.answers.filled) (progress l.reading)
    × Fills l.initial.answers.rows.now l.answers.rows.now l.answers.filled (held l.answers.rows.now l.answers.filled)
    × (l.answers.filled ≡ l.call-index)
    × (l.answers.rows.ghost_name ≡ l.initial.answers.rows.ghost_name)
