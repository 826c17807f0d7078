-- The records of tables that pass the check are records. Assumes nothing.
use Rattle.std.proofs.Common.{◌≡◌, ℕ, suc, ◌+◌, Bool, true, false, cond, eqb, List, [], ◌∷◌, length, Some, None, Ok, Err, Option, Result, refl, arith}
use Rattle.std.specs.Option.{option_map}
use Rattle.std.specs.List.{AllByRecursion}
use Rattle.std.proofs.lemmas.List.{length-append}
use Rattle.std.proofs.lemmas.Bool.{and_from}
use Rattle.charset.specs.Characters.{is_character}
use Rattle.media.specs.Meaning.{all_characters, is_record}
use Rattle.composing.specs.Layouts.{file_end_layout}
use Rattle.composing.specs.Parts.{Part, composed}
use Rattle.composing.specs.declared.refusals.Unfit.{Unfit}
use Rattle.reading.specs.Offers.{first_bad, character_cause}
use Rattle.reading.specs.Progress.{Progress, at_start, refused, after}
use Rattle.reading.specs.declared.refusals.Cause.{Cause}
use Rattle.reading.specs.declared.refusals.Cause.TheVariants.{Length}
use Rattle.rows.specs.Kept.{Rows}
use Rattle.recalling.specs.Checking.{made_or_none, record_of, trying, unless, walked, counted_unless, counting, after_counting, checking}
use Rattle.recalling.specs.Statements.{before_end, statement_records}
use Rattle.recalling.specs.declared.refusals.TableRefusal.{TableRefusal}

never : {A B : Type 0} (x : A) → Some x ≡ None → B
never x h = absurd (let z : ◌≡◌ {A = ℕ} 0 1 = cc in omega arith)

none_mapped : {A B : Type 0} (f : A → B) (x : Option A) → option_map f x ≡ None → x ≡ None
none_mapped f None h = refl
none_mapped f (Some x) h = never (f x) h

none_of_both : {A : Type 0} (x y : Option A) → unless x y ≡ None → (x ≡ None) × (y ≡ None)
none_of_both None y h = (refl, h)
none_of_both (Some x) y h = never x h

characters : (r : List ℕ) (i : ℕ) → first_bad r i ≡ None → all_characters r ≡ true
characters [] i h = refl
characters (b ∷ r) i h = go (is_character b) refl (characters r (suc i)) h
  where
    go : (t : Bool) → is_character b ≡ t → (first_bad r (suc i) ≡ None → all_characters r ≡ true) → cond t (first_bad r (suc i)) (Some i) ≡ None → all_characters (b ∷ r) ≡ true
    go true is rest k = and_from (is_character b) (all_characters r) is (rest k)
    go false is rest k = never i k

-- what a reading takes is 80 characters
taken : (p : Progress) (r : List ℕ) → refused p r ≡ None → is_record r ≡ true
unfolding refused
taken p r h = long (eqb (length r) 80) refl (none_mapped _ _ h)
  where
    good : (x : Option ℕ) → first_bad r 0 ≡ x → character_cause p.phase p.taken p.account r x ≡ None → all_characters r ≡ true
    good None is k = characters r 0 is
    good (Some i) is k = never _ k

    long : (t : Bool) → eqb (length r) 80 ≡ t → cond t (character_cause p.phase p.taken p.account r (first_bad r 0)) (Some Length) ≡ None → is_record r ≡ true
    long true is k = and_from (eqb (length r) 80) (all_characters r) is (good (first_bad r 0) refl k)
    long false is k = never {A = Cause} _ k

tried : (p : Progress) (r : Result (List ℕ) Unfit) → trying p r ≡ None → is_record (made_or_none r) ≡ true
tried p (Ok r) h = taken p r (none_mapped _ _ h)
tried p (Err e) h = never _ h

abbrev pub Fit : List (List Part) → Type 0
Fit layouts = AllByRecursion (λ layout. is_record (record_of layout) ≡ true) layouts

fit_walked : (p : Progress) (layouts : List (List Part)) → walked p layouts ≡ None → Fit layouts
fit_walked p [] h = tt
fit_walked p (layout ∷ rest) h =
    let both = none_of_both (trying p (composed layout)) (walked (after p (record_of layout)) rest) h in
    (tried p (composed layout) both.0, fit_walked (after p (record_of layout)) rest both.1)

-- tables that pass the check: every record of theirs is one, and this is how many they are
pub checked : (t : Rows) (n : ℕ) → checking t ≡ Ok n → Fit (statement_records t) × (n ≡ length (before_end t) + 1)
checked t n h = go (counting t) (walked at_start (statement_records t)) refl h
  where
    go : (c : Result (Unit {0}) TableRefusal) (w : Option TableRefusal) → walked at_start (statement_records t) ≡ w → after_counting c (counted_unless (length (statement_records t)) w) ≡ Ok n → Fit (statement_records t) × (n ≡ length (before_end t) + 1)
    go (Ok _) None is k =
        let many : length (statement_records t) ≡ n = cc in
        (fit_walked at_start (statement_records t) is, omega (arith, length-append (before_end t) (file_end_layout (length (before_end t)) ∷ [])))
    go (Ok _) (Some x) is k = absurd (let z : ◌≡◌ {A = ℕ} 0 1 = cc in omega arith)
    go (Err x) w is k = absurd (let z : ◌≡◌ {A = ℕ} 0 1 = cc in omega arith)
