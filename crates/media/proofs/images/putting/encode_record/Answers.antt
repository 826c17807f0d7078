use Rattle.std.proofs.Common.{sym}
use Rattle.media.proofs.Translating.{more, stop, all}
use Rattle.media.proofs.Writing.{encodes, encodes_not}
use Rattle.media.proofs.images.putting.encode_record.Goals as goal

pub returns-in_err-byte : goal.returns-in_err-byte
returns-in_err-byte c =
    rw c.from_residual-in_err-byte.ensures (encodes_not c.args.table.now c.args.offered.now c.loop-byte.byte-index (stop _ _ _ _ c.loop-byte-test.true c.loop-byte.invariant (sym c.in_err-byte.ensures.value)))

pub loop-byte-preserved : goal.loop-byte-preserved
loop-byte-preserved c = more _ _ _ _ c.loop-byte-test.true c.loop-byte.invariant c.in_ok-byte.field-0 (sym c.in_ok-byte.ensures.value)

pub returns : goal.returns
returns c =
    let d = all _ _ _ _ c.loop-byte-test.false c.loop-byte.invariant in
    (encodes c.args.table.now c.args.offered.now c.loop-byte.invariant.whole d.0, d.1)
