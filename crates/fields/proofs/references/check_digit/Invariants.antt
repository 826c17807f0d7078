use Rattle.std.proofs.Common.{◌≡◌, ◌+◌, drop}
use Rattle.fields.specs.Reference.{weights, weighted}
use Rattle.fields.proofs.references.check_digit.Given as goal

abbrev pub invariant-loop-weight : goal.invariant-loop-weight
invariant-loop-weight l = l.sum + weighted (drop l.weight-index weights) l.rest ≡ weighted weights l.number
