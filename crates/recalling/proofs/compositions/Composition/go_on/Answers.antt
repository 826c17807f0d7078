use Rattle.std.proofs.Common.{◌++◌, ap, ◌∙◌}
use Rattle.composing.specs.Layouts.{movement_layout, account_end_layout}
use Rattle.recalling.specs.Remaining.{attached, behind, remaining}
use Rattle.recalling.specs.Statements.{close_of}
use Rattle.recalling.proofs.Composing.{first_made, none_made}
use Rattle.recalling.proofs.Steps.{movement_begins, account_ends}
use Rattle.recalling.proofs.compositions.Composition.go_on.Goals as goal

pub returns-in-Some : goal.returns-in-Some
unfolding remaining
returns-in-Some c =
    let s = c.args.self.now in
    let m = c.in-Some.row.now in
    first_made (remaining s) (movement_layout m.movement m.reference_2) _ _
    (ap (λ b. attached s.attached ++ behind s.accounts.now s.movements.now s.texts.now b) c.requires.inside ∙ movement_begins _ _ (none_made _ c.requires.detached) m _ _ _ _ _ _ _ _ c.in-Some.ensures.cases.0 c.split_front.ensures.front c.split_front.ensures.behind c.new-self.ensures)
    c.compose_movement.ensures.answer

pub returns-in-None : goal.returns-in-None
unfolding remaining
returns-in-None c =
    let s = c.args.self.now in
    let b = c.args.begun in
    first_made (remaining s) (account_end_layout (close_of b.row.now b.own.now)) _ _
    (ap (λ o. attached s.attached ++ behind s.accounts.now s.movements.now s.texts.now o) c.requires.inside ∙ account_ends _ _ (none_made _ c.requires.detached) _ _ _ _ c.in-None.ensures.cases)
    c.compose_end.ensures
