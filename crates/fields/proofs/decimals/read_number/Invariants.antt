use Rattle.std.proofs.Common.{◌≡◌, ◌^◌, ◌<◌, drop}
use Rattle.fields.specs.Decimal.{number, number_from}
use Rattle.fields.proofs.decimals.read_number.Given as goal

abbrev pub invariant-loop-byte : goal.invariant-loop-byte
invariant-loop-byte l = (l.value < 2 ^ 64) × (number_from l.value (drop l.byte-index l.field) ≡ number l.field)
