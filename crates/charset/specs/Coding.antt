-- Two lists side by side, as a code table has them: a byte and its character stand at the same place. Assumes nothing.
use Rattle.std.specs.Prelude.{◌≡◌, ℕ, suc, ◌<◌, Bool, false, cond, ◌||◌, List, [], ◌∷◌, ◌++◌, Some, None, Option, ◌==◌, slice_index_or}

-- whether a number stands in a list
abbrev pub among : ℕ → List ℕ → Bool
among n [] = false
among n (x ∷ xs) = x == n || among n xs

-- what stands in `values` where `key` stands first in `keys`
abbrev pub lookup : List ℕ → List ℕ → ℕ → Option ℕ
lookup [] vs key = None
lookup (k ∷ ks) [] key = None
lookup (k ∷ ks) (v ∷ vs) key = cond (k == key) (Some v) (lookup ks vs key)

-- the place of the first number that equals an earlier one: `earlier` stand before, `place` is that of the next
abbrev pub repeat_after : List ℕ → ℕ → List ℕ → Option ℕ
repeat_after earlier place [] = None
repeat_after earlier place (x ∷ xs) = cond (among x earlier) (Some place) (repeat_after (earlier ++ (x ∷ [])) (suc place) xs)

abbrev pub first_repeat : List ℕ → Option ℕ
first_repeat xs = repeat_after [] 0 xs

-- an array over all bytes that answers as `lookup` does
abbrev pub Answers : List (Option ℕ) → List ℕ → List ℕ → Type 0
Answers array keys vs = (key : ℕ) → key < 256 → slice_index_or array key None ≡ lookup keys vs key
