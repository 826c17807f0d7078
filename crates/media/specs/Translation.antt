-- Bytes that are read or written by a code table, one after the other. Assumes nothing.
use Rattle.std.specs.Prelude.{ℕ, suc, cond, List, [], ◌∷◌, map, is_some, Some, None, Option}
use Rattle.std.specs.Option.{unwrap_or}

-- each byte by its counterpart
abbrev pub translated : (ℕ → Option ℕ) → List ℕ → List ℕ
translated counterpart bs = map (λ b. unwrap_or (counterpart b) 0) bs

-- the index of the first byte that has none, counted from i
abbrev pub first_without : (ℕ → Option ℕ) → List ℕ → ℕ → Option ℕ
first_without counterpart [] i = None
first_without counterpart (b ∷ bs) i = cond (is_some (counterpart b)) (first_without counterpart bs (suc i)) (Some i)
