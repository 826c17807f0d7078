use Rattle.std.proofs.Common.{◌+◌, ◌<◌, ap, arith, of_calls, rules}
use Rattle.rows.specs.declared.accounts.AccountRow.{AccountRow}
use Rattle.rows.specs.declared.movements.MovementRow.{MovementRow}
use Rattle.archiving.proofs.Counting.{last_below}
use Rattle.archiving.specs.Entering.{one_movement_more, one_text_more, converted_to, ended_with}
use Rattle.archiving.proofs.entering.enter.Goals as goal

pub revise_last-requires : goal.revise_last-requires
revise_last-requires c = λ last l row is.
    let counted : row.now.movements + 1 < 4294967296 = omega (arith, c.requires.movements, ap (λ (a : AccountRow). a.movements) is, last_below (λ (a : AccountRow). a.movements) _ _ last c.args.tables.now.accounts.fits l) in
    search (of_calls, rules)

pub revise_last-requires-in-Text : goal.revise_last-requires-in-Text
revise_last-requires-in-Text c = λ last l row is.
    let counted : row.now.texts + 1 < 4294967296 = omega (arith, c.requires.texts, ap (λ (m : MovementRow). m.texts) is, last_below (λ (m : MovementRow). m.texts) _ _ last c.args.tables.now.movements.fits l) in
    search (of_calls, rules)

pub returns-in_ok-push-in-Movement-clause-tables : goal.returns-in_ok-push-in-Movement-clause-tables
returns-in_ok-push-in-Movement-clause-tables c =
    let revised = c.revise_last.ensures.rows one_movement_more (λ row result is. search (of_calls, rules)) in
    search rules

pub returns-in_ok-push-in-Text-clause-tables : goal.returns-in_ok-push-in-Text-clause-tables
returns-in_ok-push-in-Text-clause-tables c =
    let revised = c.revise_last-in-Text.ensures.rows one_text_more (λ row result is. search (of_calls, rules)) in
    search rules

pub returns-in-Equivalent-clause-tables : goal.returns-in-Equivalent-clause-tables
returns-in-Equivalent-clause-tables c =
    let revised = c.revise_last-in-Equivalent.ensures.rows (converted_to c.in-Equivalent.equivalent) (λ row result is. search (of_calls, rules)) in
    search rules

pub returns-in-AccountEnd-clause-tables : goal.returns-in-AccountEnd-clause-tables
returns-in-AccountEnd-clause-tables c =
    let revised = c.revise_last-in-AccountEnd.ensures.rows (ended_with c.in-AccountEnd.account_end.last.key) (λ row result is. search (of_calls, rules)) in
    search rules
