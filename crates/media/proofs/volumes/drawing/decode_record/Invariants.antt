use Rattle.charset.specs.Tables.{decoded}
use Rattle.media.proofs.Translating.{Translated}
use Rattle.media.proofs.volumes.drawing.decode_record.Given as goal

abbrev pub invariant-loop-i : goal.invariant-loop-i
invariant-loop-i l = Translated (decoded l.table) l.fn.text l.character-items l.i
