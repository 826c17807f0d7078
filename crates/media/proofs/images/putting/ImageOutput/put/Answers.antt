use Rattle.std.proofs.Common.{◌≡◌, ◌+◌, Some, ap, ◌∙◌, rules}
use Rattle.media.specs.Images.{framed, bytes_after, Encodes}
use Rattle.media.proofs.Appending.{Put, room, wrote, put}
use Rattle.media.proofs.images.putting.ImageOutput.put.Goals as goal
use Rattle.media.proofs.images.putting.ImageOutput.put.Goals.{After-stride}

-- the record is encoded
encoded-text : (c : goal.After-stride) → Encodes c.args.self.now.table c.args.offered.now (Some c.in_ok-text.text)
encoded-text c = search rules

-- the record and its line end are written
written : (c : goal.After-stride) → c.write_behind-2.new.self.bytes.now ≡ bytes_after c.args.self.now.bytes.now c.args.self.now.position (framed c.args.self.now.framing c.args.self.now.table c.args.offered.now)
written c =
    let i = c.args.self.now in
    let e = encoded-text c in
    wrote i c.write_behind.new.self c.write_behind-2.new.self c.args.offered.now c.in_ok-text.text _ c.write_behind.ensures.behind c.write_behind-2.ensures.behind e.0 e.1 c.line_end.ensures (room i (λ z. c.if-places-eq0.false (c.places.ensures ∙ z)))

same-framing : (c : goal.After-stride) → c.write_behind-2.new.self.framing ≡ c.args.self.now.framing
same-framing c = c.write_behind-2.ensures.behind.framing_same ∙ c.write_behind.ensures.behind.framing_same

same-table : (c : goal.After-stride) → c.write_behind-2.new.self.table ≡ c.args.self.now.table
same-table c = c.write_behind-2.ensures.behind.table_same ∙ c.write_behind.ensures.behind.table_same

-- and so it is put
done : (c : goal.After-stride) → Put c.args.self.now.framing c.write_behind-2.new.self.framing c.args.self.now.table c.write_behind-2.new.self.table c.args.self.now.bytes.now c.write_behind-2.new.self.bytes.now c.args.offered.now c.args.self.now.position c.stride.result
done c =
    let i = c.args.self.now in
    put i.framing c.write_behind-2.new.self.framing i.table c.write_behind-2.new.self.table i.bytes.now c.write_behind-2.new.self.bytes.now c.args.offered.now i.position c.stride.result (same-framing c) (same-table c) (written c) c.stride.ensures (encoded-text c).0 (room i (λ z. c.if-places-eq0.false (c.places.ensures ∙ z))) i.clean

pub invariant_of-self : goal.invariant_of-self
invariant_of-self c = let p = done c in record { within = p.inside; clean = p.clean }

pub returns-clause-puts : goal.returns-clause-puts
returns-clause-puts c = let p = done (goal.at.returns-clause-puts c).After-stride in (p.records, p.places)

pub returns-clause-writes : goal.returns-clause-writes
returns-clause-writes c =
    let was = (goal.at.returns-clause-writes c).After-stride in
    record { bytes_written = written was; position_moved = ap (λ n. c.args.self.now.position + n) c.stride.ensures; framing_kept = same-framing was; table_kept = same-table was }
