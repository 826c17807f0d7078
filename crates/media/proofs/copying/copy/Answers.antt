use Rattle.std.proofs.lemmas.Result.{err_from_is_err_and}
use Rattle.media.proofs.Midway.{record_drawn, full}
use Rattle.media.proofs.copying.copy.Goals as goal

pub returns-in_err-put-in-Ok-true-clause-copies : goal.returns-in_err-put-in-Ok-true-clause-copies
returns-in_err-put-in-Ok-true-clause-copies g c =
    let d = record_drawn _ _ _ _ _ _ c.in-Ok-true.field-0-test c.in-Ok-true.ensures.drawn in
    let p = c.in_err-put-in-Ok-true.ensures.puts in
    let r = err_from_is_err_and c.from_residual.result c.from_residual.ensures.1 in
    let f = full c.loop-output.invariant.0 (g.C.Carrier.ending c.args.carrier.now) c.draw.new.into (g.C.Carrier.records c.draw.new.self) c.in_err-put-in-Ok-true.field-0.0 (g.O.Output.put c.put.new.self) (g.O.Output.places c.put.new.self) d.0 d.1 c.in_err-put-in-Ok-true.ensures.answer p.0 p.1 in
    rw (r.1, r.2) f
