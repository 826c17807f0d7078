-- A record that passes its checks is composed again from the values that stand in it. Assumes nothing.
use Rattle.std.proofs.Common.{◌≡◌, ℕ, suc, ◌+◌, ◌-◌, true, cond, eqb, List, ◌∷◌, length, is_some, Some, None, Ok, sym, refl, ap, ◌∙◌, arith}
use Rattle.std.proofs.lemmas.Bool.{eqb-true}
use Rattle.std.proofs.lemmas.Bool.Decides.{nat_tests}
use Rattle.fields.specs.Decimal.{all_digits, value}
use Rattle.fields.specs.Keys.{key_of, key_digit}
use Rattle.fields.specs.Modalities.{modality_of, modality_digit}
use Rattle.fields.specs.declared.keys.Key.{Key}
use Rattle.fields.specs.declared.keys.Key.TheVariants.{Debit, Credit}
use Rattle.fields.specs.declared.modalities.Modality.{Modality}
use Rattle.fields.specs.declared.modalities.Modality.TheVariants.{First, Second, Third}
use Rattle.fields.proofs.Decimal.{digits_decimal}
use Rattle.std.proofs.lemmas.Slice.Eq.{bytes_eq-Decides}
use Rattle.records.specs.Checks.{columns, judged, tested, digits, spaces, date, currency, common_concept, key, modality, reference, is_key, is_modality}
use Rattle.records.specs.Rules.{nines, account_checks, origin_checks, reference_checks, movement_checks, text_checks, equivalent_checks, account_end_checks, file_end_checks}
use Rattle.records.specs.Values.{number_at, key_at, account_in, origin_in, reference_in, movement_in, equivalent_in}
use Rattle.records.proofs.Holding.{split}
use Rattle.values.specs.Balances.{final_amount}
use Rattle.values.specs.declared.parts.AccountHead.{AccountHead}
use Rattle.values.specs.declared.parts.OpenAccount.{OpenAccount}
use Rattle.composing.specs.Layouts.{account_layout, movement_layout, text_layout, equivalent_layout, account_end_layout, file_end_layout}
use Rattle.composing.specs.Parts.{Part, spelled, spelled_or_spaces, composed}
use Rattle.composing.specs.declared.account_ends.AccountClose.{AccountClose}
use Rattle.reading.specs.Offers.{kind_in}
use Rattle.reading.specs.declared.kinds.Kind.{Kind}
use Rattle.reading.specs.declared.kinds.Kind.TheVariants.{Account, Movement, Text, Equivalent, AccountEnd, FileEnd}
use Rattle.edition.proofs.Codes.{code_of, value_of_code, code_there}
use Rattle.edition.proofs.Each.{behind, holds_at}
use Rattle.edition.proofs.Left.{in_record, Left, restored, nothing_left, plain_left, number_left, spaces_left}

-- the digit of a key or of a modality is the number that reads as it
key_back : (n : ℕ) → is_some (key_of n) ≡ true → key_digit (cond (eqb n 1) Debit Credit) ≡ n
key_back n h = grind (arith, nat_tests)

modality_back : (n : ℕ) → is_some (modality_of n) ≡ true → modality_digit (cond (eqb n 1) First (cond (eqb n 2) Second Third)) ≡ n
modality_back n h = grind (arith, nat_tests)

-- the end of an account with this final key
abbrev pub closed : OpenAccount → Key → AccountClose
closed a k = record {
  number = a.head.number;
  debits = a.debits;
  credits = a.credits;
  key = Some k;
  amount = final_amount a;
  currency = a.head.currency;
}

module _ (r : List ℕ) (long : length r ≡ 80) where
  -- the code in front
  code_left : (k : Kind) → kind_in r ≡ Some k → {ps : List Part} → Left r 2 ps → Left r 0 (spelled 2 (code_of k) ∷ ps)
  code_left k is h =
      let there = code_there r k long is in
      number_left r long 1 2 refl (ap all_digits there ∙ digits_decimal 2 (code_of k)) (sym (ap value there ∙ value_of_code k)) h

  pub account_restored : kind_in r ≡ Some Account → judged account_checks r ≡ None → composed (account_layout (account_in r) (columns 52 77 r)) ≡ Ok r
  unfolding account_layout tested digits spaces date currency key modality is_key is_modality
  account_restored is h =
      let at = holds_at account_checks r h in
      restored _ r
      (code_left Account is
      (number_left r long 3 6 refl (at 0) refl
      (number_left r long 7 10 refl (at 1) refl
      (number_left r long 11 20 refl (at 2) refl
      (number_left r long 21 26 refl (at 3) refl
      (number_left r long 27 32 refl (at 5) refl
      (number_left r long 33 33 refl (at 8) (key_back (number_at 33 33 r) (at 9))
      (number_left r long 34 47 refl (at 10) refl
      (number_left r long 48 50 refl (at 11) refl
      (number_left r long 51 51 refl (at 13) (modality_back (number_at 51 51 r) (at 14))
      (plain_left r long 52 77 refl refl
      (spaces_left r long 78 80 refl (at 15) (nothing_left r long)))))))))))))

  -- the origin office and the first reference stand as the modality says
  origin_left : (m : Modality) {ps : List Part} → judged (origin_checks m) r ≡ None → Left r 10 ps → Left r 6 (spelled_or_spaces 4 (origin_in m r) ∷ ps)
  unfolding tested digits spaces
  origin_left First h l = spaces_left r long 7 10 refl (holds_at _ r h 0) l
  origin_left Second h l = number_left r long 7 10 refl (holds_at _ r h 0) refl l
  origin_left Third h l = number_left r long 7 10 refl (holds_at _ r h 0) refl l

  reference_left : (m : Modality) {ps : List Part} → judged (reference_checks m) r ≡ None → Left r 64 ps → Left r 52 (spelled_or_spaces 12 (reference_in m r) ∷ ps)
  unfolding tested digits spaces reference
  reference_left First h l = spaces_left r long 53 64 refl (holds_at (reference_checks First) r h 0) l
  reference_left Second h l = spaces_left r long 53 64 refl (holds_at (reference_checks Second) r h 0) l
  reference_left Third h l = number_left r long 53 64 refl (holds_at (reference_checks Third) r h 0) refl l

  pub movement_restored : (a : OpenAccount) → kind_in r ≡ Some Movement → judged (movement_checks a) r ≡ None → composed (movement_layout (movement_in a.head.modality r) (columns 65 80 r)) ≡ Ok r
  unfolding movement_layout tested digits spaces date common_concept key is_key
  movement_restored a is h =
      let m = a.head.modality in
      let rest = split (origin_checks m) _ r (sym (behind (movement_checks a) r h 1)) in
      let at = holds_at _ r (sym rest.1) in
      restored _ r
      (code_left Movement is
      (spaces_left r long 3 6 refl (holds_at (movement_checks a) r h 0)
      (origin_left m (sym rest.0)
      (number_left r long 11 16 refl (at 0) refl
      (number_left r long 17 22 refl (at 3) refl
      (number_left r long 23 24 refl (at 5) refl
      (number_left r long 25 27 refl (at 7) refl
      (number_left r long 28 28 refl (at 8) (key_back (number_at 28 28 r) (at 9))
      (number_left r long 29 42 refl (at 11) refl
      (number_left r long 43 52 refl (at 13) refl
      (reference_left m (behind _ r (sym rest.1) 14)
      (plain_left r long 65 80 refl refl (nothing_left r long)))))))))))))

  pub text_restored : (n : ℕ) → kind_in r ≡ Some Text → judged (text_checks n) r ≡ None → composed (text_layout (n + 1) (columns 5 42 r) (columns 43 80 r)) ≡ Ok r
  unfolding text_layout tested digits
  text_restored n is h =
      let at = holds_at (text_checks n) r h in
      let sequence = eqb-true (number_at 3 4 r) (suc n) (at 2) in
      restored _ r
      (code_left Text is
      (number_left r long 3 4 refl (at 0) (omega arith)
      (plain_left r long 5 42 refl refl
      (plain_left r long 43 80 refl refl (nothing_left r long)))))

  pub equivalent_restored : (h : AccountHead) → kind_in r ≡ Some Equivalent → judged (equivalent_checks h) r ≡ None → composed (equivalent_layout (equivalent_in r)) ≡ Ok r
  unfolding equivalent_layout tested digits spaces currency
  equivalent_restored head is h =
      let at = holds_at (equivalent_checks head) r h in
      restored _ r
      (code_left Equivalent is
      (number_left r long 3 4 refl (at 0) (sym (eqb-true (number_at 3 4 r) 1 (at 1)))
      (number_left r long 5 7 refl (at 2) refl
      (number_left r long 8 21 refl (at 5) refl
      (spaces_left r long 22 80 refl (at 6) (nothing_left r long))))))

  -- a number that agrees
  same_left : (a b : ℕ) → in_record a b ≡ true → (n : ℕ) {ps : List Part} → all_digits (columns a b r) ≡ true → eqb (number_at a b r) n ≡ true → Left r b ps → Left r (a - 1) (spelled (b - (a - 1)) n ∷ ps)
  same_left a b there n digits same h = number_left r long a b there digits (sym (eqb-true (number_at a b r) n same)) h

  pub account_end_restored : (a : OpenAccount) → kind_in r ≡ Some AccountEnd → judged (account_end_checks a) r ≡ None → composed (account_end_layout (closed a (key_at 59 r))) ≡ Ok r
  unfolding account_end_layout tested digits spaces currency key is_key
  account_end_restored a is h =
      let at = holds_at (account_end_checks a) r h in
      restored _ r
      (code_left AccountEnd is
      (same_left 3 6 refl a.head.number.entity (at 0) (at 1)
      (same_left 7 10 refl a.head.number.office (at 2) (at 3)
      (same_left 11 20 refl a.head.number.number (at 4) (at 5)
      (same_left 21 25 refl a.debits.count (at 6) (at 7)
      (same_left 26 39 refl a.debits.total (at 8) (at 9)
      (same_left 40 44 refl a.credits.count (at 10) (at 11)
      (same_left 45 58 refl a.credits.total (at 12) (at 13)
      (number_left r long 59 59 refl (at 14) (key_back (number_at 59 59 r) (at 15))
      (same_left 60 73 refl (final_amount a) (at 17) (at 18)
      (same_left 74 76 refl a.head.currency (at 19) (at 21)
      (spaces_left r long 77 80 refl (at 22) (nothing_left r long)))))))))))))

  pub file_end_restored : (n : ℕ) → kind_in r ≡ Some FileEnd → judged (file_end_checks n) r ≡ None → composed (file_end_layout n) ≡ Ok r
  unfolding file_end_layout tested digits spaces
  file_end_restored n is h =
      let at = holds_at (file_end_checks n) r h in
      restored _ r
      (code_left FileEnd is
      (plain_left r long 3 20 refl (sym ((bytes_eq-Decides (columns 3 20 r) nines).0 (at 1)))
      (same_left 21 26 refl n (at 2) (at 3)
      (spaces_left r long 27 80 refl (at 4) (nothing_left r long)))))
