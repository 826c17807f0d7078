-- The counts in the rows, one row after the other. Assumes nothing.
use Rattle.std.proofs.Common.{◌≡◌, ℕ, ◌+◌, ◌≤◌, List, [], ◌∷◌, ◌++◌, length, take, Some, ap, ◌∙◌, arith}
use Rattle.std.proofs.lemmas.List.{take_more}
use Rattle.table.specs.Rows.{held, LastOf, revised}
use Rattle.rows.specs.Kept.{sum}

module _ {A : Type 0} (f : A → ℕ) where
  pub sum_append : (xs ys : List A) → sum f (xs ++ ys) ≡ sum f xs + sum f ys
  sum_append [] ys = omega arith
  sum_append (x ∷ xs) ys = omega (arith, sum_append xs ys)

  -- the last row has no more than all
  pub last_below : (rows : List A) (filled : ℕ) (last : ℕ × A) → filled ≤ length rows → LastOf rows filled (Some last) → f last.1 ≤ sum f (held rows filled)
  last_below rows filled last fits l =
      let was = take_more rows last.0 last.1 (omega (arith, fits, l.0)) ∙ ap (λ x. take last.0 rows ++ (x ∷ [])) (l.1 last.1) in
      let whole = ap (λ n. sum f (take n rows)) l.0 in
      omega (arith, whole, ap (sum f) was, sum_append (take last.0 rows) (last.1 ∷ []))

  -- a last row that counts at most one more
  pub sum_revised : (g : A → A) → ((x : A) → f (g x) ≤ f x + 1) → (xs : List A) → sum f (revised g xs) ≤ sum f xs + 1
  sum_revised g h [] = omega arith
  sum_revised g h (x ∷ []) = omega (arith, h x)
  sum_revised g h (x ∷ (y ∷ xs)) = omega (arith, sum_revised g h (y ∷ xs))
