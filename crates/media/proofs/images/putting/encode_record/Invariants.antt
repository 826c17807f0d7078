use Rattle.charset.specs.Tables.{encoded}
use Rattle.media.proofs.Translating.{Translated}
use Rattle.media.proofs.images.putting.encode_record.Given as goal

abbrev pub invariant-loop-byte : goal.invariant-loop-byte
invariant-loop-byte l = Translated (encoded l.table) l.fn.offered l.byte-items l.byte-index
