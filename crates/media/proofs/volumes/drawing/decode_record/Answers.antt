use Rattle.std.proofs.Common.{rules}
use Rattle.media.proofs.Translating.{more}
use Rattle.media.proofs.volumes.drawing.decode_record.Goals as goal

pub loop-i-preserved : goal.loop-i-preserved
loop-i-preserved c = more _ _ _ _ c.loop-i-test.true c.loop-i.invariant c.in_ok-character.field-0 (search rules)
