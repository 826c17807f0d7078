-- Numbers in decimal digits, the most significant first. Assumes nothing.
use Rattle.std.specs.Prelude.{◌≡◌, ℕ, zero, suc, ◌+◌, ◌-◌, ◌*◌, ◌/◌, ◌%◌, ◌^◌, Bool, true, cond, ◌&&◌, List, [], ◌∷◌, ◌++◌, length, Some, None, Option, nat_le, nat_lt}

abbrev pub is_digit : ℕ → Bool
is_digit b = nat_le 48 b && nat_le b 57

abbrev pub all_digits : List ℕ → Bool
all_digits [] = true
all_digits (b ∷ bs) = is_digit b && all_digits bs

-- the value of digits that stand after those of n
abbrev pub value_from : ℕ → List ℕ → ℕ
value_from n [] = n
value_from n (b ∷ bs) = value_from (10 * n + (b - 48)) bs

abbrev pub value : List ℕ → ℕ
value bs = value_from 0 bs

-- the number of such digits, where a field holds nothing else and 64 bits hold the number
abbrev pub number_from : ℕ → List ℕ → Option ℕ
number_from n bs = cond (all_digits bs && nat_lt (value_from n bs) (2 ^ 64)) (Some (value_from n bs)) None

-- the number that a field spells
abbrev pub number : List ℕ → Option ℕ
number bs = number_from 0 bs

-- whether w digits can spell n
abbrev pub fits : ℕ → ℕ → Bool
fits w n = nat_lt n (10 ^ w)

-- n in w digits, with zeros in front
abbrev pub decimal : ℕ → ℕ → List ℕ
decimal zero n = []
decimal (suc w) n = decimal w (n / 10) ++ ((48 + n % 10) ∷ [])

-- a number that was read is written as it stood
abbrev pub WrittenBack : List ℕ → Option ℕ → Type 0
WrittenBack bs None = Unit {0}
WrittenBack bs (Some n) = decimal (length bs) n ≡ bs
