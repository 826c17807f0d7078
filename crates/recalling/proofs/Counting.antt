-- The sum of rows is the library's. Assumes nothing.
use Rattle.std.proofs.Common.{◌≡◌, ℕ, ◌+◌, List, [], ◌∷◌, sum_by, refl, ap, ◌∙◌}
use Rattle.std.proofs.lemmas.List.Sums.{sum_by-cons}
use Rattle.rows.specs.Kept.{sum}

summed : {A : Type 0} (f : A → ℕ) (rows : List A) → sum_by f rows ≡ sum f rows
summed f [] = refl
summed f (x ∷ rows) = sum_by-cons f x rows ∙ ap (λ n. f x + n) (summed f rows)

pub sum_is : {A : Type 0} (f : A → ℕ) (rows : List A) (n : ℕ) → n ≡ sum_by f rows → n ≡ sum f rows
sum_is f rows n h = h ∙ summed f rows
