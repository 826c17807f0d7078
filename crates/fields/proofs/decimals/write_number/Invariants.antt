use Rattle.std.proofs.Common.{◌≡◌, ◌++◌, length, drop}
use Rattle.fields.specs.Decimal.{decimal}
use Rattle.fields.proofs.decimals.write_number.Given as goal

abbrev pub invariant-loop-place : goal.invariant-loop-place
invariant-loop-place l = decimal l.place l.rest ++ drop l.place l.field ≡ decimal (length l.initial.field) l.number
