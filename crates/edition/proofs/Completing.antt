-- The records that complete a file pass their checks. Assumes nothing.
use Rattle.std.proofs.Common.{◌≡◌, ℕ, suc, ◌+◌, ◌^◌, ◌<◌, ◌≤◌, Bool, true, false, cond, eqb, leb, List, [], ◌∷◌, ◌++◌, take, drop, replicate, is_some, None, Ok, codes, refl, ap, ◌∙◌, arith}
use Rattle.std.specs.Str.{bytes_eq}
use Rattle.std.proofs.lemmas.Bool.{lt-ltb, eq-eqb, le-leb, leb-false}
use Rattle.charset.specs.Characters.{is_character}
use Rattle.fields.specs.Codes.{among, currencies}
use Rattle.fields.specs.Decimal.{all_digits, fits}
use Rattle.fields.specs.Keys.{key_of, key_digit}
use Rattle.fields.specs.declared.keys.Key.{Key}
use Rattle.fields.specs.declared.keys.Key.TheVariants.{Debit, Credit}
use Rattle.fields.proofs.Decimal.{digits_decimal}
use Rattle.fields.proofs.Marks.{key_of_digit}
use Rattle.values.specs.Balances.{owed_to, owed_by, key_fits, final_amount}
use Rattle.values.specs.declared.parts.AccountEnd.{AccountEnd as AccountEndNumbers}
use Rattle.values.specs.declared.parts.OpenAccount.{OpenAccount}
use Rattle.records.specs.Checks.{columns, judged, tested, digits, spaces, date, currency, key, modality, is_date, is_currency, is_key, is_modality}
use Rattle.records.specs.Rules.{nines, account_checks, account_end_checks, file_end_checks}
use Rattle.records.specs.Values.{number_at}
use Rattle.composing.specs.Layouts.{account_end_layout, file_end_layout}
use Rattle.composing.specs.Parts.{Part, spelled, composed}
use Rattle.composing.specs.Records.{Characters}
use Rattle.composing.proofs.Standing.{widths, spread, Fit, length-composed, part_there, number_there}
use Rattle.composing.proofs.Telling.{account_end_tells, file_end_tells}
use Rattle.reading.specs.Offers.{first_bad}
use Rattle.reading.specs.declared.kinds.Kind.TheVariants.{Account, AccountEnd, FileEnd}
use Rattle.edition.proofs.Closing.{Closable, currency_small}
use Rattle.edition.proofs.Codes.{kind_there}
use Rattle.edition.proofs.Each.{also, also_both, all_hold}
use Rattle.edition.proofs.Left.{fit_composed}
use Rattle.edition.proofs.Restoring.{closed}
use Rattle.edition.proofs.Right.{Right}

good_characters : (r : List ℕ) (i : ℕ) → Characters r → first_bad r i ≡ None
good_characters [] i h = refl
good_characters (b ∷ r) i h = rw h.0 (good_characters r (suc i) h.1)

-- a number of a composed record agrees with what it was composed from
same_there : (ps : List Part) (r : List ℕ) → composed ps ≡ Ok r → (k a b : ℕ) {w n : ℕ} {after : List Part} → drop k ps ≡ spelled w n ∷ after → a ≡ suc (widths (take k ps)) → b ≡ widths (take k ps) + w → (all_digits (columns a b r) ≡ true) × (eqb (number_at a b r) n ≡ true)
same_there ps r is k a b {w} {n} here from to =
    (ap all_digits (part_there ps r is k a b here from to) ∙ digits_decimal w n, eq-eqb (number_at a b r) n (number_there ps r is k a b here from to))

fits_below : (w n : ℕ) → n < 10 ^ w → fits w n ≡ true
fits_below w n h = lt-ltb n (10 ^ w) h

key_fits_field : (k : Key) → fits 1 (key_digit k) ≡ true
key_fits_field Debit = refl
key_fits_field Credit = refl

-- 33: the end of an account that can be closed, with a key that fits
end_fits : (a : OpenAccount) (k : Key) → Closable a → Fit (account_end_layout (closed a k))
unfolding account_end_layout
end_fits a k c =
    let h = a.head in
    let l = c.limits in
    also refl
    (also (fits_below 4 h.number.entity c.head.entity)
    (also (fits_below 4 h.number.office c.head.office)
    (also (fits_below 10 h.number.number c.head.number)
    (also (fits_below 5 a.debits.count (omega (arith, l.debits)))
    (also (fits_below 14 a.debits.total (omega (arith, l.debited)))
    (also (fits_below 5 a.credits.count (omega (arith, l.credits)))
    (also (fits_below 14 a.credits.total (omega (arith, l.credited)))
    (also (key_fits_field k)
    (also (fits_below 14 (final_amount a) (omega (arith, c.final)))
    (also (fits_below 3 h.currency (omega (arith, currency_small h.currency c.head.currency)))
    (refl, tt)))))))))))

pub account_end_right : (a : OpenAccount) (k : Key) → Closable a → key_fits a k ≡ true → (r : List ℕ) → composed (account_end_layout (closed a k)) ≡ Ok r → Right AccountEnd (account_end_checks a) r
unfolding account_end_layout tested digits spaces currency key is_currency is_key
account_end_right a k c suits r is =
    let ps = account_end_layout (closed a k) in
    let t = account_end_tells (closed a k) r is in
    let entity = same_there ps r is 1 3 6 refl refl refl in
    let office = same_there ps r is 2 7 10 refl refl refl in
    let number = same_there ps r is 3 11 20 refl refl refl in
    let debits = same_there ps r is 4 21 25 refl refl refl in
    let debited = same_there ps r is 5 26 39 refl refl refl in
    let credits = same_there ps r is 6 40 44 refl refl refl in
    let credited = same_there ps r is 7 45 58 refl refl refl in
    let digit = (same_there ps r is 8 59 59 refl refl refl).0 in
    let known = ap (λ n. is_some (key_of n)) t.key ∙ ap is_some (key_of_digit k) in
    let suited = ap (λ (e : AccountEndNumbers). key_fits a e.last.key) (t.keyed k refl) ∙ suits in
    let amount = same_there ps r is 9 60 73 refl refl refl in
    let currency = same_there ps r is 10 74 76 refl refl refl in
    let listed = ap (λ n. among n currencies) (number_there ps r is 10 74 76 refl refl refl) ∙ c.head.currency in
    record {
      long = length-composed ps r is;
      good = good_characters r 0 t.characters;
      is = kind_there r AccountEnd t.code;
      passed =
          all_hold (account_end_checks a) r
          (also_both entity
          (also_both office
          (also_both number
          (also_both debits
          (also_both debited
          (also_both credits
          (also_both credited
          (also digit
          (also known
          (also suited
          (also_both amount
          (also currency.0
          (also listed
          (also currency.1 (t.free, tt)))))))))))))));
    }

-- the key of the final balance
abbrev pub final_key : OpenAccount → Key
final_key a = cond (leb (owed_by a) (owed_to a)) Credit Debit

pub final_key_fits : (a : OpenAccount) → key_fits a (final_key a) ≡ true
final_key_fits a = go (leb (owed_by a) (owed_to a)) refl
  where
    go : (b : Bool) → leb (owed_by a) (owed_to a) ≡ b → key_fits a (cond b Credit Debit) ≡ true
    go true h = h
    go false h = le-leb (owed_to a) (owed_by a) (omega (arith, leb-false (owed_by a) (owed_to a) h))

pub account_end_completes : (a : OpenAccount) → Closable a → (r : List ℕ) × (composed (account_end_layout (closed a (final_key a))) ≡ Ok r) × Right AccountEnd (account_end_checks a) r
account_end_completes a c =
    let ps = account_end_layout (closed a (final_key a)) in
    let is = fit_composed ps (end_fits a (final_key a) c) in
    (spread ps, is, account_end_right a (final_key a) c (final_key_fits a) (spread ps) is)

-- 88
pub file_end_right : (n : ℕ) (r : List ℕ) → composed (file_end_layout n) ≡ Ok r → Right FileEnd (file_end_checks n) r
unfolding file_end_layout tested digits spaces
file_end_right n r is =
    let ps = file_end_layout n in
    let t = file_end_tells n r is in
    let before = same_there ps r is 2 21 26 refl refl refl in
    record {
      long = length-composed ps r is;
      good = good_characters r 0 t.characters;
      is = kind_there r FileEnd t.code;
      passed = all_hold (file_end_checks n) r (also (ap all_digits t.fixed) (also (ap (λ cs. bytes_eq cs nines) t.fixed) (also_both before (t.free, tt))));
    }

pub file_end_completes : (n : ℕ) → n ≤ 999999 → (r : List ℕ) × (composed (file_end_layout n) ≡ Ok r) × Right FileEnd (file_end_checks n) r
unfolding file_end_layout
file_end_completes n h =
    let ps = file_end_layout n in
    let is = fit_composed ps (refl, (refl, (fits_below 6 n (omega arith), (refl, tt)))) in
    (spread ps, is, file_end_right n (spread ps) is)

-- 11: an account of July 2001
abbrev pub some_account : List ℕ
some_account = codes "110001000100000000010107010107312000000000000009781" ++ replicate 29 32

pub some_account_right : Right Account account_checks some_account
unfolding is_character judged tested digits spaces date currency key modality is_date is_currency is_key is_modality
some_account_right = record { long = refl; good = refl; is = refl; passed = refl }
