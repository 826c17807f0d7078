-- References of twelve digits, of which the last is the check digit of the others. Assumes nothing.
use Rattle.std.specs.Prelude.{ℕ, ◌+◌, ◌*◌, ◌/◌, ◌%◌, Bool, cond, List, [], ◌∷◌, ◌==◌}

-- the weights of the digits, from the right
abbrev pub weights : List ℕ
weights = 2 ∷ 3 ∷ 4 ∷ 5 ∷ 6 ∷ 7 ∷ 8 ∷ 9 ∷ 2 ∷ 3 ∷ 4 ∷ []

-- the sum of a number's digits, from the right, each times its weight
abbrev pub weighted : List ℕ → ℕ → ℕ
weighted [] n = 0
weighted (w ∷ ws) n = w * (n % 10) + weighted ws (n / 10)

-- a remainder of ten is written 0
abbrev pub remainder_digit : ℕ → ℕ
remainder_digit r = cond (r == 10) 0 r

abbrev pub check_digit : ℕ → ℕ
check_digit n = remainder_digit (weighted weights n % 11)

abbrev pub is_reference : ℕ → Bool
is_reference n = n % 10 == check_digit (n / 10)
