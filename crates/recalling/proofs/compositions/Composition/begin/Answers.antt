use Rattle.std.proofs.Common.{◌++◌, map, sym, ap, ◌∙◌, subst}
use Rattle.std.specs.Iterator.{YieldsFirst}
use Rattle.composing.specs.Layouts.{account_layout}
use Rattle.composing.specs.Parts.{composed}
use Rattle.recalling.specs.Remaining.{attached, behind, remaining, left}
use Rattle.recalling.proofs.Composing.{first_made, none_made}
use Rattle.recalling.proofs.Steps.{account_begins, accounts_over}
use Rattle.recalling.proofs.compositions.Composition.begin.Goals as goal

pub returns : goal.returns
unfolding remaining
returns c =
    let s = c.args.self.now in
    let a = c.in_ok-row.row.now in
    first_made (remaining s) (account_layout a.head a.name) _ _
    (ap (λ b. attached s.attached ++ behind s.accounts.now s.movements.now s.texts.now b) c.requires.outside ∙ account_begins _ _ (none_made _ c.requires.detached) a _ _ _ _ _ c.in_ok-row.ensures.cases.0 c.split_front.ensures.front c.split_front.ensures.behind)
    c.compose_account.ensures.answer

pub returns-in_err-row : goal.returns-in_err-row
unfolding remaining
returns-in_err-row c =
    let s = c.args.self.now in
    let over = ap (λ b. attached s.attached ++ behind s.accounts.now s.movements.now s.texts.now b) c.requires.outside ∙ accounts_over _ _ (none_made _ c.requires.detached) _ _ c.in_err-row.ensures.cases in
    subst (λ r. YieldsFirst left s r s) (sym c.from_residual.ensures) (ap (map composed) over, ap (map composed) over)
