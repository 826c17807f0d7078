use Rattle.std.proofs.Common.{subst, of_calls, rules, refl}
use Rattle.std.specs.Fn.{FnOnceReturnsAtMut}
use Rattle.table.specs.Rows.{WasSet}
use Rattle.table.proofs.Filling.{revised_by}
use Rattle.archiving.proofs.entering.revise_last.Goals as goal

pub change-requires : goal.change-requires
change-requires g c = let h = c.requires (c.in-Some.last, c.in-Some.row) c.in-Some.ensures in search (of_calls, rules)

pub returns-in-Some-clause-rows : goal.returns-in-Some-clause-rows
returns-in-Some-clause-rows g c = λ changed is.
    let t = c.args.table.now in
    let row = c.change.new.arg2 in
    let changed_row : FnOnceReturnsAtMut g.F.FnOnce c.args.change c.in-Some.row tt row = record { shown = _; shows = search rules; left = _; met = c.change.ensures; leaves = refl } in
    revised_by changed _ _ (c.in-Some.last, c.in-Some.row) _ _ _ t.fits c.in-Some.ensures (subst (λ x. WasSet t.rows.now t.filled c.in-Some.last x c.set.new.self.rows.now c.set.result) (is c.in-Some.row row changed_row) c.set.ensures.set) c.set.ensures.filled
