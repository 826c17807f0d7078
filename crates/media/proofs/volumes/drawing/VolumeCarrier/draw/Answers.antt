use Rattle.std.proofs.Common.{Ok, sym, ap, ◌∙◌}
use Rattle.media.proofs.Scanning.{drawn_record}
use Rattle.media.proofs.volumes.drawing.VolumeCarrier.draw.Goals as goal

pub returns-clause-drawn : goal.returns-clause-drawn
returns-clause-drawn c =
    let v = c.args.self.now in
    (drawn_record v.framing v.table v.bytes.now v.position c.stride.result c.in-Some.characters c.args.into.now c.stride.ensures (sym c.look.ensures ∙ (c.in_ok-characters.was ∙ ap Ok c.in-Some.is))).0

pub returns-clause-ending : goal.returns-clause-ending
returns-clause-ending c =
    let v = c.args.self.now in
    (drawn_record v.framing v.table v.bytes.now v.position c.stride.result c.in-Some.characters c.args.into.now c.stride.ensures (sym c.look.ensures ∙ (c.in_ok-characters.was ∙ ap Ok c.in-Some.is))).1
