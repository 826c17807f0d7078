use Rattle.std.proofs.Common.{◌+◌, Some, sym, ap, ◌∙◌, subst, rules}
use Rattle.std.specs.Result.{result_err}
use Rattle.std.proofs.lemmas.Result.{err_from_is_err_and}
use Rattle.reading.specs.Progress.{progress}
use Rattle.reading.proofs.Progress.{refused_is, moved_after}
use Rattle.rows.specs.Tables.{rows_in, room_in, Holds}
use Rattle.archiving.proofs.Taking.{whole, entered_by, stopped_by, refused_by, told_by, stop_told, granted_told, on_any}
use Rattle.archiving.specs.Entering.{granted}
use Rattle.archiving.specs.Reads.{entered}
use Rattle.archiving.specs.declared.refusals.ReadRefusal.TheVariants.{NoRow}
use Rattle.archiving.proofs.reads.take.Goals as goal

pub returns-in_err-entry-clause-answer : goal.returns-in_err-entry-clause-answer
returns-in_err-entry-clause-answer c =
    let s = c.args.reading.now in
    let t = c.args.tables.now in
    let r = err_from_is_err_and c.from_residual.result c.from_residual.ensures.1 in
    let refusal = sym (ap result_err c.in_err-entry.was) ∙ (c.offer.ensures.refusal ∙ refused_is s c.args.offered.now) in
    ap result_err r.1 ∙ (ap Some r.2 ∙ refused_by (room_in t) (progress s) (rows_in t) c.args.offered.now c.in_err-entry.field-0.0 refusal)

pub enter-requires-clause-whole : goal.enter-requires-clause-whole
enter-requires-clause-whole c = whole c.args.reading.now.account c.args.offered.now c.in_ok-entry.entry c.told-offered c.in_ok-entry.ensures.tells

pub returns : goal.returns
returns c =
    let s = c.args.reading.now in
    let t = c.args.tables.now in
    let o = c.args.offered.now in
    let e = c.in_ok-entry.entry in
    let n = (progress s).taken + 1 in
    let said = c.in_ok-entry.ensures in
    let is = said.after.kind_there in
    let rows = rows_in t in
    let answered = told_by (λ table. NoRow table n) _ (λ table x told. search rules) c.enter.result c.map_err.result c.map_err.ensures.cases in
    let stop = stopped_by (progress s) o e rows is (room_in t) (said.refusal ∙ refused_is s o) (result_err c.enter.result) c.enter.ensures.answer in
    let held = ap (λ r. granted c.enter.result r rows) (entered_by (progress s) o e rows is said.tells) ∙ (sym (granted_told (λ table. NoRow table n) c.enter.result _ _) ∙ ap (λ a. granted a (entered (progress s) o rows) rows) (sym answered)) in
    record {
      answer = ap result_err answered ∙ (stop_told n c.enter.result ∙ stop);
      tables = subst (Holds t c.enter.new.tables) held c.enter.ensures.tables;
      reading = on_any c.map_err.result (moved_after s _ o _ said.after);
      count = on_any c.map_err.result said.after.one_more;
    }
