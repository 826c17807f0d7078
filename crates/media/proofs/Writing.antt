-- A record that is encoded and written. Assumes nothing.
use Rattle.std.proofs.Common.{◌≡◌, ℕ, suc, ◌+◌, ◌≤◌, Bool, true, false, cond, not, ◌&&◌, eqb, List, [], ◌∷◌, ◌++◌, length, take, drop, is_some, Some, None, Option, unwrap_or, sym, refl, ap, ◌∙◌, ap₂, append_assoc, arith, length-append, length-drop}
use Rattle.std.proofs.lemmas.List.{drop-drop, drop_at, take_at, length-take-le}
use Rattle.std.proofs.lemmas.Bool.{and_from, and_right, and_parts, eq-eqb, not-true, not-false}
use Rattle.charset.specs.Characters.{is_character}
use Rattle.charset.specs.Tables.{decoded, encoded}
use Rattle.charset.specs.declared.code_table.CodeTable.{CodeTable}
use Rattle.charset.proofs.Tables.{encoded_some, decoded_back}
use Rattle.media.specs.Meaning.{all_characters, is_record}
use Rattle.media.specs.Translation.{translated, first_without}
use Rattle.media.specs.Images.{bytes_after}

pub part_length : (xs ys : List ℕ) (p : ℕ) → p + length ys ≤ length xs → length (bytes_after xs p ys) ≡ length xs
part_length xs ys p fits =
    omega (arith, length-append (take p xs) (ys ++ drop (p + length ys) xs), length-append ys (drop (p + length ys) xs), length-drop (p + length ys) xs, length-take-le p xs (omega arith))

-- a part written behind another is one part
pub two_parts : (xs ys zs : List ℕ) (p : ℕ) → p + (length ys + length zs) ≤ length xs → bytes_after (bytes_after xs p ys) (p + length ys) zs ≡ bytes_after xs p (ys ++ zs)
two_parts xs ys zs p fits =
    let front : length (take p xs) ≡ p = length-take-le p xs (omega arith) in
    let both : length (take p xs ++ ys) ≡ p + length ys = omega (arith, length-append (take p xs) ys) in
    let regroup : bytes_after xs p ys ≡ (take p xs ++ ys) ++ drop (p + length ys) xs = sym (append_assoc (take p xs) ys (drop (p + length ys) xs)) in
    let ahead : take (p + length ys) (bytes_after xs p ys) ≡ take p xs ++ ys = ap (take (p + length ys)) regroup ∙ take_at (take p xs ++ ys) (drop (p + length ys) xs) (p + length ys) both in
    let back : drop (p + length ys + length zs) (bytes_after xs p ys) ≡ drop (p + length (ys ++ zs)) xs =
    sym (drop-drop (length zs) (p + length ys) (bytes_after xs p ys))
    ∙ (ap (λ l. drop (length zs) (drop (p + length ys) l)) regroup
    ∙ (ap (drop (length zs)) (drop_at (take p xs ++ ys) (drop (p + length ys) xs) (p + length ys) both)
    ∙ (drop-drop (length zs) (p + length ys) xs ∙ ap (λ n. drop n xs) (omega (arith, length-append ys zs))))) in
    ap₂ (λ a b. a ++ (zs ++ b)) ahead back
    ∙ (append_assoc (take p xs) ys (zs ++ drop (p + length (ys ++ zs)) xs) ∙ ap (λ l. take p xs ++ l) (sym (append_assoc ys zs (drop (p + length (ys ++ zs)) xs))))

module _ (t : CodeTable) where
  -- bytes are characters exactly where none is without its byte
  lacks : (r : List ℕ) (i : ℕ) → is_some (first_without (encoded t) r i) ≡ not (all_characters r)
  lacks [] i = refl
  lacks (c ∷ cs) i = rw (encoded_some t c) (go (is_character c) (lacks cs (suc i)))
    where
      go : (b : Bool) → is_some (first_without (encoded t) cs (suc i)) ≡ not (all_characters cs) → is_some (cond b (first_without (encoded t) cs (suc i)) (Some i)) ≡ not (b && all_characters cs)
      go true h = h
      go false h = refl

  pub encodes : (r : List ℕ) → length r ≡ 80 → first_without (encoded t) r 0 ≡ None → is_record r ≡ true
  encodes r l h = and_from (eqb (length r) 80) (all_characters r) (eq-eqb (length r) 80 l) (not-false (all_characters r) (sym (lacks r 0) ∙ ap is_some h))

  pub encodes_not : (r : List ℕ) (k : ℕ) → first_without (encoded t) r 0 ≡ Some k → is_record r ≡ false
  encodes_not r k h = and_right (eqb (length r) 80) (all_characters r) (not-true (all_characters r) (sym (lacks r 0) ∙ ap is_some h))

  -- what is written reads as it was
  pub reads_again : (r : List ℕ) (i : ℕ) → all_characters r ≡ true → (first_without (decoded t) (translated (encoded t) r) i ≡ None) × (translated (decoded t) (translated (encoded t) r) ≡ r)
  reads_again [] i h = (refl, refl)
  reads_again (c ∷ cs) i h = go (encoded t c) refl (and_parts (is_character c) (all_characters cs) h) (reads_again cs (suc i))
    where
      go : (o : Option ℕ) → encoded t c ≡ o → (is_character c ≡ true) × (all_characters cs ≡ true) → (all_characters cs ≡ true → (first_without (decoded t) (translated (encoded t) cs) (suc i) ≡ None) × (translated (decoded t) (translated (encoded t) cs) ≡ cs)) → (first_without (decoded t) (unwrap_or o 0 ∷ translated (encoded t) cs) i ≡ None) × (translated (decoded t) (unwrap_or o 0 ∷ translated (encoded t) cs) ≡ c ∷ cs)
      go None e p rest = absurd (let no' = sym (ap is_some e) ∙ encoded_some t c in let z : ◌≡◌ {A = Bool} false true = no' ∙ p.0 in grind arith)
      go (Some b) e p rest = let d = decoded_back t c b e in (rw d (rest p.1).0, rw d (ap (λ l. c ∷ l) (rest p.1).1))
