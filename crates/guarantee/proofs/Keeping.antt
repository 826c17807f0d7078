-- The records of a correct file are those that a reading finds right. Assumes nothing.
use Rattle.std.proofs.Common.{◌≡◌, ℕ, suc, Bool, true, false, cond, eqb, ◌↔◌, List, [], ◌∷◌, ◌++◌, length, Some, None, codes, sym, refl, ◌∙◌, arith}
use Rattle.std.proofs.lemmas.Bool.{eqb-true, eq-eqb, and_parts, and_from}
use Rattle.charset.specs.Characters.{is_character}
use Rattle.fields.specs.Decimal.{decimal}
use Rattle.values.specs.Balances.{counts_in_limit, stays_in_limit}
use Rattle.values.specs.declared.parts.OpenAccount.{OpenAccount}
use Rattle.media.specs.Meaning.{all_characters}
use Rattle.records.specs.Checks.{Check, judged, tested, digits, spaces, date, common_concept, key, limited}
use Rattle.records.specs.Rules.{origin_checks, operation_checks, amount_checks, movement_checks}
use Rattle.records.specs.Values.{key_at, number_at}
use Rattle.records.specs.declared.refusals.Question.{Question}
use Rattle.records.specs.declared.refusals.Question.TheVariants.{Limit}
use Rattle.records.proofs.Judging.{pass}
use Rattle.records.proofs.Holding.{split, held}
use Rattle.reading.specs.Offers.{first_bad}
use Rattle.reading.specs.declared.kinds.Kind.{Kind}
use Rattle.reading.specs.declared.kinds.Kind.TheVariants as kind
use Rattle.edition.proofs.Codes.{code_of, code_there, kind_there}
use Rattle.edition.proofs.Each.{all_hold}
use Rattle.edition.proofs.Right.{Right}
use Rattle.guarantee.specs.Files.{Keeps, movement_rules}

-- the first two characters of a record, by its kind
abbrev pub mark : Kind → List ℕ
mark kind.Account = codes "11"
mark kind.Movement = codes "22"
mark kind.Text = codes "23"
mark kind.Equivalent = codes "24"
mark kind.AccountEnd = codes "33"
mark kind.FileEnd = codes "88"

mark_spells : (k : Kind) → mark k ≡ decimal 2 (code_of k)
mark_spells kind.Account = refl
mark_spells kind.Movement = refl
mark_spells kind.Text = refl
mark_spells kind.Equivalent = refl
mark_spells kind.AccountEnd = refl
mark_spells kind.FileEnd = refl

none_bad : (r : List ℕ) (i : ℕ) → all_characters r ≡ true → first_bad r i ≡ None
none_bad [] i h = refl
none_bad (b ∷ r) i h = let p = and_parts (is_character b) (all_characters r) h in rw p.0 (none_bad r (suc i) p.1)

all_good : (r : List ℕ) (i : ℕ) → first_bad r i ≡ None → all_characters r ≡ true
all_good [] i h = refl
all_good (b ∷ r) i h = go (is_character b) refl h (all_good r (suc i))
  where
    go : (g : Bool) → is_character b ≡ g → cond g (first_bad r (suc i)) (Some i) ≡ None → (first_bad r (suc i) ≡ None → all_characters r ≡ true) → all_characters (b ∷ r) ≡ true
    go true e k more = and_from (is_character b) (all_characters r) e (more k)
    go false e k more = absurd (let z : ◌≡◌ {A = ℕ} 0 1 = cc in omega arith)

-- 80 characters of a kind that keep its rules
module _ (k : Kind) (rules : List Check) (r : List ℕ) where
  pub is_right : Keeps (mark k) rules r → Right k rules r
  is_right h =
      let p = and_parts (eqb (length r) 80) (all_characters r) h.characters in
      record { long = eqb-true (length r) 80 p.0; good = none_bad r 0 p.1; is = kind_there r k (h.code ∙ mark_spells k); passed = h.fields }

  pub keeps : Right k rules r → Keeps (mark k) rules r
  keeps h = record {
    characters = and_from (eqb (length r) 80) (all_characters r) (eq-eqb (length r) 80 h.long) (all_good r 0 h.good);
    code = code_there r k h.long h.is ∙ sym (mark_spells k);
    fields = h.passed;
  }

-- a movement passes its checks just if it keeps its rules and stays in the limits of its account
module _ (r : List ℕ) where
  apart : (us vs : List Check) → judged (us ++ vs) r ≡ None → (judged us r ≡ None) × (judged vs r ≡ None)
  apart us vs h = let p = split us vs r (sym h) in (sym p.0, sym p.1)

  together : (us vs : List Check) → judged us r ≡ None → judged vs r ≡ None → judged (us ++ vs) r ≡ None
  together us vs h k = sym (pass us vs r None (sym h) (sym k))

  in_front : (us vs ws : List Check) {X : Type 0} → (judged vs r ≡ None ↔ (X × (judged ws r ≡ None))) → (judged (us ++ vs) r ≡ None ↔ (X × (judged (us ++ ws) r ≡ None)))
  in_front us vs ws e = (
    (λ h. let p = apart us vs h in let q = e.0 p.1 in (q.0, together us ws p.0 q.1)),
    (λ h. let p = apart us ws h.1 in together us vs p.0 (e.1 (h.0, p.1))),
  )

  holding : (q : Question) (a b : ℕ) (test : List ℕ → Bool) → test r ≡ true → judged (tested q a b test) r ≡ None
  unfolding tested
  holding q a b test h = all_hold (tested q a b test) r (h, tt)

  module _ (a : OpenAccount) where
    abbrev pub Limited : Type 0
    Limited = (counts_in_limit a (key_at 28 r) ≡ true) × (stays_in_limit a (key_at 28 r) (number_at 29 42 r) ≡ true)

    counted : List ℕ → Bool
    counted x = counts_in_limit a (key_at 28 x)

    staying : List ℕ → Bool
    staying x = stays_in_limit a (key_at 28 x) (number_at 29 42 x)

    amount_passes : (vs : List Check) → (judged (amount_checks a ++ vs) r ≡ None ↔ (Limited × (judged (key 28 ++ (digits 29 42 ++ vs)) r ≡ None)))
    unfolding counted staying
    amount_passes vs = (
      (λ h.
          let p = apart (amount_checks a) vs h in
          let q = apart (key 28) _ p.0 in
          let s = apart (limited 28 28 counted) _ q.1 in
          let t = apart (digits 29 42) (limited 29 42 staying) s.1 in
          ((held Limit 28 28 counted r (sym s.0), held Limit 29 42 staying r (sym t.1)), together (key 28) _ q.0 (together (digits 29 42) vs t.0 p.1))),
      (λ h.
          let p = apart (key 28) _ h.1 in
          let q = apart (digits 29 42) vs p.1 in
          let amount = together (digits 29 42) (limited 29 42 staying) q.0 (holding Limit 29 42 staying h.0.1) in
          together (amount_checks a) vs (together (key 28) _ p.0 (together (limited 28 28 counted) _ (holding Limit 28 28 counted h.0.0) amount)) q.1),
    )

    pub movement_passes : judged (movement_checks a) r ≡ None ↔ (Limited × (judged (movement_rules a.head) r ≡ None))
    movement_passes =
        in_front (spaces 3 6) _ _
        (in_front (origin_checks a.head.modality) _ _
        (in_front (operation_checks a.head.period) _ _
        (in_front (date 17 22) _ _
        (in_front (common_concept 23 24) _ _
        (in_front (digits 25 27) _ _ (amount_passes _))))))
