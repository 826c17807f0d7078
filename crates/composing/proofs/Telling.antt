-- A composed record tells the values that it was composed from. Assumes nothing.
use Rattle.std.proofs.Common.{◌≡◌, ℕ, suc, ◌+◌, cond, eqb, List, [], ◌∷◌, length, take, drop, is_some, IfOk, Some, None, Ok, Option, Result, refl, ap, ◌∙◌, arith}
use Rattle.std.proofs.lemmas.Bool.{true≢false, false≢true}
use Rattle.fields.specs.Decimal.{all_digits}
use Rattle.fields.specs.Keys.{key_digit}
use Rattle.fields.specs.Modalities.{modality_digit}
use Rattle.fields.specs.declared.keys.Key.{Key}
use Rattle.fields.specs.declared.keys.Key.TheVariants.{Debit, Credit}
use Rattle.fields.specs.declared.modalities.Modality.{Modality}
use Rattle.fields.specs.declared.modalities.Modality.TheVariants.{First, Second, Third}
use Rattle.fields.proofs.Decimal.{digits_decimal}
use Rattle.records.specs.Rules.{nines}
use Rattle.records.specs.Values.{number_at, key_at, modality_at, origin_in, reference_in, account_end_in}
use Rattle.values.specs.declared.parts.AccountHead.{AccountHead}
use Rattle.values.specs.declared.parts.Equivalent.{Equivalent}
use Rattle.values.specs.declared.parts.Movement.{Movement}
use Rattle.composing.specs.Layouts.{account_layout, movement_layout, text_layout, equivalent_layout, digit_or_zero, account_end_layout, file_end_layout}
use Rattle.composing.specs.Parts.{Part, plain, spelled_or_spaces, composed}
use Rattle.composing.specs.Records.{Stands, tells_origin, tells_reference, AccountRecord, MovementRecord, TextRecord, EquivalentRecord, ended, AccountEndRecord, FileEndRecord}
use Rattle.composing.specs.declared.account_ends.AccountClose.{AccountClose}
use Rattle.composing.specs.declared.refusals.Unfit.{Unfit}
use Rattle.composing.proofs.Standing.{made_of, width, widths, part_there, number_there, spaces_there, digits_there, digit_characters, Lettered, characters_there}

-- the digit of a key or of a modality reads as it
key_there : (a : ℕ) (r : List ℕ) (k : Key) → number_at a a r ≡ key_digit k → key_at a r ≡ k
key_there a r Debit h = ap (λ n. cond (eqb n 1) Debit Credit) h
key_there a r Credit h = ap (λ n. cond (eqb n 1) Debit Credit) h

modality_there : (a : ℕ) (r : List ℕ) (m : Modality) → number_at a a r ≡ modality_digit m → modality_at a r ≡ m
modality_there a r First h = ap (λ n. cond (eqb n 1) First (cond (eqb n 2) Second Third)) h
modality_there a r Second h = ap (λ n. cond (eqb n 1) First (cond (eqb n 2) Second Third)) h
modality_there a r Third h = ap (λ n. cond (eqb n 1) First (cond (eqb n 2) Second Third)) h

pub account_tells : (h : AccountHead) (name r : List ℕ) → length name ≡ 26 → composed (account_layout h name) ≡ Ok r → AccountRecord h name r
unfolding account_layout
account_tells h name r long is =
    let ps = account_layout h name in
    let entity = number_there ps r is 1 3 6 refl refl refl in
    let office = number_there ps r is 2 7 10 refl refl refl in
    let number = number_there ps r is 3 11 20 refl refl refl in
    let first = number_there ps r is 4 21 26 refl refl refl in
    let last = number_there ps r is 5 27 32 refl refl refl in
    let key = key_there 33 r h.initial.key (number_there ps r is 6 33 33 refl refl refl) in
    let amount = number_there ps r is 7 34 47 refl refl refl in
    let currency = number_there ps r is 8 48 50 refl refl refl in
    let modality = modality_there 51 r h.modality (number_there ps r is 9 51 51 refl refl refl) in
    record {
      code = part_there ps r is 0 1 2 refl refl refl;
      digits = digits_there ps r is 0 10 1 51 refl refl refl;
      head = rw (entity, office, number, first, last, key, amount, currency, modality) refl;
      name = part_there ps r is 10 52 77 refl refl (omega arith);
      free = spaces_there ps r is 11 78 80 refl (omega arith) (omega arith);
      characters = λ text. characters_there ps r is (text, tt);
    }

-- a number that may be absent
optional_width : (w : ℕ) (o : Option ℕ) → width (spelled_or_spaces w o) ≡ w
optional_width w (Some n) = refl
optional_width w None = refl

optional_lettered : (w : ℕ) (o : Option ℕ) (ps : List Part) → Lettered ps → Lettered (spelled_or_spaces w o ∷ ps)
optional_lettered w (Some n) ps h = h
optional_lettered w None ps h = h

stands_there : (ps : List Part) (r : List ℕ) → composed ps ≡ Ok r → (k a b w : ℕ) (o : Option ℕ) {after : List Part} → drop k ps ≡ spelled_or_spaces w o ∷ after → a ≡ suc (widths (take k ps)) → b ≡ widths (take k ps) + w → Stands a b o r
stands_there ps r is k a b w (Some n) here from to =
    (ap all_digits (part_there ps r is k a b here from to) ∙ digits_decimal w n, number_there ps r is k a b here from to)
stands_there ps r is k a b w None here from to = spaces_there ps r is k a b here from to

origin_told : (m : Modality) (o : Option ℕ) (r : List ℕ) → Stands 7 10 o r → is_some o ≡ tells_origin m → origin_in m r ≡ o
origin_told First None r s h = refl
origin_told First (Some n) r s h = absurd (true≢false h)
origin_told Second None r s h = absurd (false≢true h)
origin_told Second (Some n) r s h = ap Some s.1
origin_told Third None r s h = absurd (false≢true h)
origin_told Third (Some n) r s h = ap Some s.1

reference_told : (m : Modality) (o : Option ℕ) (r : List ℕ) → Stands 53 64 o r → is_some o ≡ tells_reference m → reference_in m r ≡ o
reference_told First None r s h = refl
reference_told First (Some n) r s h = absurd (true≢false h)
reference_told Second None r s h = refl
reference_told Second (Some n) r s h = absurd (true≢false h)
reference_told Third None r s h = absurd (false≢true h)
reference_told Third (Some n) r s h = ap Some s.1

pub movement_tells : (m : Movement) (second r : List ℕ) → length second ≡ 16 → composed (movement_layout m second) ≡ Ok r → MovementRecord m second r
unfolding movement_layout
movement_tells m second r long is =
    let ps = movement_layout m second in
    let four = optional_width 4 m.origin in
    let twelve = optional_width 12 m.reference in
    let origin = stands_there ps r is 2 7 10 4 m.origin refl refl refl in
    let operation = number_there ps r is 3 11 16 refl (omega arith) (omega arith) in
    let value = number_there ps r is 4 17 22 refl (omega arith) (omega arith) in
    let common = number_there ps r is 5 23 24 refl (omega arith) (omega arith) in
    let own = number_there ps r is 6 25 27 refl (omega arith) (omega arith) in
    let key = key_there 28 r m.key (number_there ps r is 7 28 28 refl (omega arith) (omega arith)) in
    let amount = number_there ps r is 8 29 42 refl (omega arith) (omega arith) in
    let document = number_there ps r is 9 43 52 refl (omega arith) (omega arith) in
    let reference = stands_there ps r is 10 53 64 12 m.reference refl (omega arith) (omega arith) in
    record {
      code = part_there ps r is 0 1 2 refl refl refl;
      free = spaces_there ps r is 1 3 6 refl refl refl;
      origin = origin;
      digits = digits_there ps r is 3 7 11 52 refl (omega arith) (omega arith);
      operation = rw operation refl;
      value = rw value refl;
      common = common;
      own = own;
      key = key;
      amount = amount;
      document = document;
      reference = reference;
      reference_2 = part_there ps r is 11 65 80 refl (omega arith) (omega arith);
      movement = λ modality present told. rw (origin_told modality m.origin r origin present, operation, value, common, own, key, amount, document, reference_told modality m.reference r reference told) refl;
      characters = λ text. characters_there ps r is (optional_lettered 4 m.origin _ (optional_lettered 12 m.reference (plain second ∷ []) (text, tt)));
    }

pub text_tells : (n : ℕ) (first second r : List ℕ) → length first ≡ 38 → length second ≡ 38 → composed (text_layout n first second) ≡ Ok r → TextRecord n first second r
unfolding text_layout
text_tells n first second r long too is =
    let ps = text_layout n first second in
    record {
      code = part_there ps r is 0 1 2 refl refl refl;
      digits = digits_there ps r is 0 2 1 4 refl refl refl;
      sequence = number_there ps r is 1 3 4 refl refl refl;
      first = part_there ps r is 2 5 42 refl refl (omega arith);
      second = part_there ps r is 3 43 80 refl (omega arith) (omega arith);
      characters = λ one two. characters_there ps r is (one, (two, tt));
    }

pub equivalent_tells : (e : Equivalent) (r : List ℕ) → composed (equivalent_layout e) ≡ Ok r → EquivalentRecord e r
unfolding equivalent_layout
equivalent_tells e r is =
    let ps = equivalent_layout e in
    let currency = number_there ps r is 2 5 7 refl refl refl in
    let amount = number_there ps r is 3 8 21 refl refl refl in
    record {
      code = part_there ps r is 0 1 2 refl refl refl;
      sequence = part_there ps r is 1 3 4 refl refl refl;
      digits = digits_there ps r is 0 4 1 21 refl refl refl;
      equivalent = rw (currency, amount) refl;
      free = spaces_there ps r is 4 22 80 refl refl refl;
      characters = characters_there ps r is tt;
    }

pub account_end_tells : (e : AccountClose) (r : List ℕ) → composed (account_end_layout e) ≡ Ok r → AccountEndRecord e r
unfolding account_end_layout
account_end_tells e r is =
    let ps = account_end_layout e in
    let entity = number_there ps r is 1 3 6 refl refl refl in
    let office = number_there ps r is 2 7 10 refl refl refl in
    let number = number_there ps r is 3 11 20 refl refl refl in
    let debits = number_there ps r is 4 21 25 refl refl refl in
    let debit_total = number_there ps r is 5 26 39 refl refl refl in
    let credits = number_there ps r is 6 40 44 refl refl refl in
    let credit_total = number_there ps r is 7 45 58 refl refl refl in
    let key = number_there ps r is 8 59 59 refl refl refl in
    let amount = number_there ps r is 9 60 73 refl refl refl in
    let currency = number_there ps r is 10 74 76 refl refl refl in
    let end : account_end_in r ≡ ended e (key_at 59 r) = rw (entity, office, number, debits, debit_total, credits, credit_total, amount, currency) refl in
    record {
      code = part_there ps r is 0 1 2 refl refl refl;
      digits = digits_there ps r is 0 11 1 76 refl refl refl;
      key = key;
      end = end;
      keyed = λ k present. end ∙ ap (ended e) (key_there 59 r k (key ∙ ap digit_or_zero present));
      free = spaces_there ps r is 11 77 80 refl refl refl;
      characters = characters_there ps r is tt;
    }

pub file_end_tells : (n : ℕ) (r : List ℕ) → composed (file_end_layout n) ≡ Ok r → FileEndRecord n r
unfolding file_end_layout
file_end_tells n r is =
    let ps = file_end_layout n in
    record {
      code = part_there ps r is 0 1 2 refl refl refl;
      fixed = part_there ps r is 1 3 20 refl refl refl;
      digits = digits_there ps r is 2 1 21 26 refl refl refl;
      before = number_there ps r is 2 21 26 refl refl refl;
      free = spaces_there ps r is 3 27 80 refl refl refl;
      characters = characters_there ps r is (digit_characters nines refl, tt);
    }

-- what a function answers that composes a record
pub account_told : (h : AccountHead) (name : List ℕ) (answer : Result (List ℕ) Unfit) → length name ≡ 26 → answer ≡ composed (account_layout h name) → IfOk answer (AccountRecord h name)
account_told h name answer long is = made_of _ _ answer is (λ r. account_tells h name r long)

pub movement_told : (m : Movement) (second : List ℕ) (answer : Result (List ℕ) Unfit) → length second ≡ 16 → answer ≡ composed (movement_layout m second) → IfOk answer (MovementRecord m second)
movement_told m second answer long is = made_of _ _ answer is (λ r. movement_tells m second r long)

pub text_told : (n : ℕ) (first second : List ℕ) (answer : Result (List ℕ) Unfit) → length first ≡ 38 → length second ≡ 38 → answer ≡ composed (text_layout n first second) → IfOk answer (TextRecord n first second)
text_told n first second answer long too is = made_of _ _ answer is (λ r. text_tells n first second r long too)

pub equivalent_told : (e : Equivalent) (answer : Result (List ℕ) Unfit) → answer ≡ composed (equivalent_layout e) → IfOk answer (EquivalentRecord e)
equivalent_told e answer is = made_of _ _ answer is (equivalent_tells e)

pub account_end_told : (e : AccountClose) (answer : Result (List ℕ) Unfit) → answer ≡ composed (account_end_layout e) → IfOk answer (AccountEndRecord e)
account_end_told e answer is = made_of _ _ answer is (account_end_tells e)

pub file_end_told : (n : ℕ) (answer : Result (List ℕ) Unfit) → answer ≡ composed (file_end_layout n) → IfOk answer (FileEndRecord n)
file_end_told n answer is = made_of _ _ answer is (file_end_tells n)
