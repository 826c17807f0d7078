use Rattle.std.proofs.Common.{◌≡◌, drop}
use Rattle.reading.specs.Offers.{first_bad}
use Rattle.reading.proofs.characters.first_bad.Given as goal

abbrev pub invariant-loop-i : goal.invariant-loop-i
invariant-loop-i l = first_bad l.bytes 0 ≡ first_bad (drop l.i l.bytes) l.i
