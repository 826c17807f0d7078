-- An account that is turned movement by movement, with counts and totals that stay at the largest. Assumes nothing.
use Rattle.std.proofs.Common.{◌≡◌, ℕ, ◌+◌, List, [], ◌∷◌, refl, ap, ◌∙◌, ap₂, arith}
use Rattle.std.specs.List.{fold}
use Rattle.fields.specs.declared.keys.Key.{Key}
use Rattle.fields.specs.declared.keys.Key.TheVariants.{Debit, Credit}
use Rattle.rows.specs.declared.accounts.AccountRow.{AccountRow}
use Rattle.rows.specs.declared.movements.MovementRow.{MovementRow}
use Rattle.values.specs.Balances.{begun, debit_of, credit_of, turned, turned_capped}
use Rattle.values.specs.declared.parts.AccountHead.{AccountHead}
use Rattle.values.specs.declared.parts.OpenAccount.{OpenAccount}
use Rattle.values.specs.declared.parts.Turnover.{Turnover}
use Rattle.recalling.specs.Caps.{capped_account}
use Rattle.recalling.specs.Statements.{debits_of, credits_of, turned_over}

abbrev pub step : OpenAccount → MovementRow → OpenAccount
step o m = turned_capped o m.movement.key m.movement.amount

abbrev both : Turnover → Turnover → Turnover
both t u = record { count = t.count + u.count; total = t.total + u.total }

abbrev account : AccountHead → Turnover → Turnover → OpenAccount
account h d c = record { head = h; debits = d; credits = c }

-- an account after movements, worked out exactly
abbrev after : OpenAccount → List MovementRow → OpenAccount
after o own = account o.head (both o.debits (debits_of own)) (both o.credits (credits_of own))

same : (t u : Turnover) → t.count ≡ u.count → t.total ≡ u.total → t ≡ u
same t u c n = ap₂ (λ a b. record { count = a; total = b }) c n

made : (h : AccountHead) (d d' c c' : Turnover) → d ≡ d' → c ≡ c' → account h d c ≡ account h d' c'
made h d d' c c' p q = ap₂ (account h) p q

-- a movement that is capped after what was, and before what is to come
capped_one : (o : OpenAccount) (k : Key) (n : ℕ) → turned_capped (capped_account o) k n ≡ capped_account (turned o k n)
capped_one o Debit n = made o.head _ _ _ _ (same _ _ (omega arith) (omega arith)) refl
capped_one o Credit n = made o.head _ _ _ _ refl (same _ _ (omega arith) (omega arith))

first : (o : OpenAccount) (k : Key) (n : ℕ) (d c : Turnover) → account (turned o k n).head (both (turned o k n).debits d) (both (turned o k n).credits c) ≡ account o.head (both o.debits (record { count = debit_of k 1 + d.count; total = debit_of k n + d.total })) (both o.credits (record { count = credit_of k 1 + c.count; total = credit_of k n + c.total }))
first o Debit n d c = made o.head _ _ _ _ (same _ _ (omega arith) (omega arith)) (same _ _ (omega arith) (omega arith))
first o Credit n d c = made o.head _ _ _ _ (same _ _ (omega arith) (omega arith)) (same _ _ (omega arith) (omega arith))

all : (o : OpenAccount) (own : List MovementRow) → fold step (capped_account o) own ≡ capped_account (after o own)
all o [] = ap capped_account (made o.head _ _ _ _ (same o.debits (both o.debits (debits_of [])) (omega arith) (omega arith)) (same o.credits (both o.credits (credits_of [])) (omega arith) (omega arith)))
all o (m ∷ own) =
    let k = m.movement.key in
    let n = m.movement.amount in
    ap (λ a. fold step a own) (capped_one o k n) ∙ (all (turned o k n) own ∙ ap capped_account (first o k n (debits_of own) (credits_of own)))

pub turned_all : (a : AccountRow) (own : List MovementRow) → fold step (begun a.head) own ≡ capped_account (turned_over a own)
turned_all a own =
    all (begun a.head) own
    ∙ ap capped_account (made a.head _ _ _ _ (same (both (begun a.head).debits (debits_of own)) (debits_of own) (omega arith) (omega arith)) (same (both (begun a.head).credits (credits_of own)) (credits_of own) (omega arith) (omega arith)))
