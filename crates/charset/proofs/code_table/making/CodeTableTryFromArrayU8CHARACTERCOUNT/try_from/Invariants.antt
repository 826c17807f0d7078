use Rattle.charset.specs.Characters.{characters}
use Rattle.charset.proofs.Filling.{Filled}
use Rattle.charset.proofs.code_table.making.CodeTableTryFromArrayU8CHARACTERCOUNT.try_from.Given as goal

abbrev pub invariant-loop-place : goal.invariant-loop-place
invariant-loop-place l = Filled l.fn.bytes characters l.decoding l.encoding l.place
