-- What holds of a record that passes its checks. Assumes nothing.
use Rattle.std.proofs.Common.{◌≡◌, ℕ, Bool, true, false, cond, List, ◌++◌, Some, None, Option, refl, ◌∙◌, arith}
use Rattle.values.specs.Balances.{counts_in_limit, stays_in_limit}
use Rattle.records.specs.Checks.{Check, judged, tested, digits, spaces, date, common_concept, key, limited}
use Rattle.records.specs.Rules.{origin_checks, operation_checks, amount_checks, movement_checks}
use Rattle.records.specs.Values.{key_at, number_at}
use Rattle.records.specs.declared.refusals.FieldRefusal.{FieldRefusal}
use Rattle.records.specs.declared.refusals.Question.{Question}
use Rattle.records.specs.declared.refusals.Question.TheVariants.{Limit}
use Rattle.values.specs.declared.parts.OpenAccount.{OpenAccount}
use Rattle.records.proofs.Judging.{first, both}

-- checks that all hold, each by itself
pub split : (us vs : List Check) (r : List ℕ) → None ≡ judged (us ++ vs) r → (None ≡ judged us r) × (None ≡ judged vs r)
unfolding first
split us vs r h = go (judged us r) (h ∙ both us vs r)
  where
    go : (o : Option FieldRefusal) → None ≡ first o (judged vs r) → (None ≡ o) × (None ≡ judged vs r)
    go None k = (refl, k)
    go (Some e) k = absurd (let z : ◌≡◌ {A = ℕ} 0 1 = cc in omega arith)

pub held : (q : Question) (a b : ℕ) (test : List ℕ → Bool) (r : List ℕ) → None ≡ judged (tested q a b test) r → test r ≡ true
unfolding judged tested
held q a b test r h = go (test r) h
  where
    go : (t : Bool) → ◌≡◌ {A = Option FieldRefusal} None (cond t None (Some (record { question = q; column = a }))) → t ≡ true
    go true k = refl
    go false k = absurd (let z : ◌≡◌ {A = ℕ} 0 1 = cc in omega arith)

-- a movement that is right stays in the limits of its account
pub movement_limits : (a : OpenAccount) (r : List ℕ) → None ≡ judged (movement_checks a) r → (counts_in_limit a (key_at 28 r) ≡ true) × (stays_in_limit a (key_at 28 r) (number_at 29 42 r) ≡ true)
movement_limits a r h =
    let m = a.head.modality in
    let h₁ = (split (spaces 3 6) _ r h).1 in
    let h₂ = (split (origin_checks m) _ r h₁).1 in
    let h₃ = (split (operation_checks a.head.period) _ r h₂).1 in
    let h₄ = (split (date 17 22) _ r h₃).1 in
    let h₅ = (split (common_concept 23 24) _ r h₄).1 in
    let h₆ = (split (digits 25 27) _ r h₅).1 in
    let h₇ = (split (amount_checks a) _ r h₆).0 in
    let h₈ = (split (key 28) _ r h₇).1 in
    let h₉ = split (limited 28 28 (λ x. counts_in_limit a (key_at 28 x))) _ r h₈ in
    (held Limit 28 28 (λ x. counts_in_limit a (key_at 28 x)) r h₉.0, held Limit 29 42 (λ x. stays_in_limit a (key_at 28 x) (number_at 29 42 x)) r (split (digits 29 42) _ r h₉.1).1)
