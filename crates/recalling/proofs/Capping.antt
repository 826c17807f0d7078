-- An account end composed from capped counts and totals is the one of the exact ones: what is capped fits no field.
-- Assumes nothing.
use Rattle.std.proofs.Common.{◌≡◌, ℕ, suc, ◌-◌, ◌^◌, ◌<◌, ◌≤◌, min, List, [], ◌∷◌, length, take, drop, Ok, Err, Result, sym, refl, ap, ◌∙◌, ap₂, ⊎_elim, arith}
use Rattle.std.proofs.lemmas.Bool.{cases_lt, cond-false, le-ltb}
use Rattle.composing.specs.Layouts.{digit_or_zero, account_end_layout}
use Rattle.composing.specs.Parts.{Part, spelled, added, all_added, composed}
use Rattle.composing.specs.declared.account_ends.AccountClose.{AccountClose}
use Rattle.composing.specs.declared.refusals.Unfit.{Unfit}
use Rattle.values.specs.Balances.{final_amount}
use Rattle.values.specs.declared.parts.OpenAccount.{OpenAccount}
use Rattle.rows.specs.declared.accounts.AccountRow.{AccountRow}
use Rattle.rows.specs.declared.movements.MovementRow.{MovementRow}
use Rattle.recalling.specs.Caps.{capped_account}
use Rattle.recalling.specs.Statements.{turned_over, close_of}

still : (e : Unfit) (ps : List Part) → all_added (Err e) ps ≡ Err e
unfolding added
still e [] = refl
still e (p ∷ ps) = still e ps

-- two numbers that are too wide, whatever comes behind them
both_unfit : (r : Result (List ℕ) Unfit) (w m n : ℕ) (ps qs : List Part) → 10 ^ w ≤ m → 10 ^ w ≤ n → all_added r (spelled w m ∷ ps) ≡ all_added r (spelled w n ∷ qs)
unfolding added
both_unfit (Err e) w m n ps qs wide wide' = still e ps ∙ sym (still e qs)
both_unfit (Ok cs) w m n ps qs wide wide' =
    let e : Unfit = record { column = suc (length cs) } in
    let one = ap (λ x. all_added x ps) (cond-false _ _ _ (le-ltb m (10 ^ w) wide)) ∙ still e ps in
    let other = ap (λ x. all_added x qs) (cond-false _ _ _ (le-ltb n (10 ^ w) wide')) ∙ still e qs in
    one ∙ sym other

-- a number and another in its place that is as wide: parts behind them matter only where it fits
instead : (r : Result (List ℕ) Unfit) (w m n : ℕ) (ps qs : List Part) → (n < 10 ^ w → m ≡ n) → (10 ^ w ≤ n → 10 ^ w ≤ m) → (n < 10 ^ w → (s : Result (List ℕ) Unfit) → all_added s ps ≡ all_added s qs) → all_added r (spelled w m ∷ ps) ≡ all_added r (spelled w n ∷ qs)
instead r w m n ps qs same wide behind =
    ⊎_elim
    (λ (h : n < 10 ^ w). ap (λ k. all_added (added r (spelled w k)) ps) (same h) ∙ behind h (added r (spelled w n)))
    (λ (h : 10 ^ w ≤ n). both_unfit r w m n ps qs (wide h) h)
    (cases_lt n (10 ^ w))

-- where the totals fit their fields, the final amount is worked out from the exact ones
exact : (a : OpenAccount) → a.debits.total < 10 ^ 14 → a.credits.total < 10 ^ 14 → final_amount (capped_account a) ≡ final_amount a
exact a d c =
    let debits : min a.debits.total (2 ^ 64 - 1) ≡ a.debits.total = omega arith in
    let credits : min a.credits.total (2 ^ 64 - 1) ≡ a.credits.total = omega arith in
    ap₂ (λ x y. final_amount (record { head = a.head; debits = record { count = 0; total = x }; credits = record { count = 0; total = y } })) debits credits

-- the end that is composed of an account that turned so, with this final amount
abbrev pub closed : AccountRow → OpenAccount → ℕ → AccountClose
closed a turned amount = record {
  number = a.head.number;
  debits = turned.debits;
  credits = turned.credits;
  key = a.final_key;
  amount = amount;
  currency = a.head.currency;
}

abbrev capped_close : AccountRow → List MovementRow → AccountClose
capped_close a own = closed a (capped_account (turned_over a own)) (min (final_amount (capped_account (turned_over a own))) (2 ^ 64 - 1))

-- parts that compose alike behind any others
abbrev Alike : List Part → List Part → Type 0
Alike ps qs = (s : Result (List ℕ) Unfit) → all_added s ps ≡ all_added s qs

module _ (a : AccountRow) (own : List MovementRow) where
  -- the parts of both from the k-th on, counted from 0
  abbrev from : ℕ → AccountClose → List Part
  from k e = drop k (account_end_layout e)

  amounts : (turned_over a own).debits.total < 10 ^ 14 → (turned_over a own).credits.total < 10 ^ 14 → Alike (from 8 (capped_close a own)) (from 8 (close_of a own))
  unfolding account_end_layout
  amounts dt ct s =
      let e = exact (turned_over a own) dt ct in
      instead (added s (spelled 1 (digit_or_zero a.final_key))) 14 _ _ (from 10 (capped_close a own)) (from 10 (close_of a own)) (λ h. omega arith) (λ h. omega arith) (λ _ _. refl)

  credits : (turned_over a own).debits.total < 10 ^ 14 → Alike (from 6 (capped_close a own)) (from 6 (close_of a own))
  unfolding account_end_layout
  credits dt s =
      instead s 5 _ _ (from 7 (capped_close a own)) (from 7 (close_of a own)) (λ h. omega arith) (λ h. omega arith) (λ _ t. instead t 14 _ _ (from 8 (capped_close a own)) (from 8 (close_of a own)) (λ h. omega arith) (λ h. omega arith) (amounts dt))

  debits : Alike (from 4 (capped_close a own)) (from 4 (close_of a own))
  unfolding account_end_layout
  debits s =
      instead s 5 _ _ (from 5 (capped_close a own)) (from 5 (close_of a own)) (λ h. omega arith) (λ h. omega arith) (λ _ t. instead t 14 _ _ (from 6 (capped_close a own)) (from 6 (close_of a own)) (λ h. omega arith) (λ h. omega arith) credits)

  as_exact : composed (account_end_layout (capped_close a own)) ≡ composed (account_end_layout (close_of a own))
  unfolding composed account_end_layout
  as_exact = debits (all_added (Ok []) (take 4 (account_end_layout (close_of a own))))

  pub composed_end : (turned : OpenAccount) (amount : ℕ) → turned ≡ capped_account (turned_over a own) → amount ≡ min (final_amount turned) (2 ^ 64 - 1) → composed (account_end_layout (closed a turned amount)) ≡ composed (account_end_layout (close_of a own))
  composed_end turned amount is far =
      ap₂ (λ t n. composed (account_end_layout (closed a t n))) is (far ∙ ap (λ t. min (final_amount t) (2 ^ 64 - 1)) is) ∙ as_exact
