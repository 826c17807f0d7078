-- The code lists. Assumes nothing.
use Rattle.std.specs.Prelude.{ℕ, Bool, false, ◌||◌, List, [], ◌∷◌, ◌==◌}

-- whether a number stands in a list
abbrev pub among : ℕ → List ℕ → Bool
among n [] = false
among n (x ∷ xs) = x == n || among n xs

-- Australian, Canadian, Danish, Japanese, New Zealand, Norwegian, Swedish, Swiss, British, United States, euro
abbrev pub currencies : List ℕ
currencies = 36 ∷ 124 ∷ 208 ∷ 392 ∷ 554 ∷ 578 ∷ 752 ∷ 756 ∷ 826 ∷ 840 ∷ 978 ∷ []

abbrev pub common_concepts : List ℕ
common_concepts = 1 ∷ 2 ∷ 3 ∷ 4 ∷ 5 ∷ 6 ∷ 7 ∷ 8 ∷ 9 ∷ 10 ∷ 11 ∷ 12 ∷ 13 ∷ 14 ∷ 15 ∷ 16 ∷ 17 ∷ 98 ∷ 99 ∷ []
