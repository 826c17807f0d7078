-- Dates of six digits, YYMMDD, as numbers. Assumes nothing.
use Rattle.std.specs.Prelude.{ℕ, ◌+◌, ◌/◌, ◌%◌, Bool, cond, ◌&&◌, [], ◌∷◌, ◌==◌, nat_le}
use Rattle.fields.specs.Codes.{among}

abbrev pub year : ℕ → ℕ
year n = n / 10000

abbrev pub month : ℕ → ℕ
month n = n / 100 % 100

abbrev pub day : ℕ → ℕ
day n = n % 100

-- the months of 31 days, those of 30, and February; no other number is a month
abbrev pub month_length : ℕ → ℕ → ℕ
month_length y m =
    cond (among m (1 ∷ 3 ∷ 5 ∷ 7 ∷ 8 ∷ 10 ∷ 12 ∷ [])) 31
    (cond (among m (4 ∷ 6 ∷ 9 ∷ 11 ∷ [])) 30
    (cond (m == 2) (cond (y % 4 == 0) 29 28)
    0))

-- six digits, and a day of that month
abbrev pub real_day : ℕ → Bool
real_day n = nat_le n 999999 && (nat_le 1 (day n) && nat_le (day n) (month_length (year n) (month n)))

-- the years 82 to 99 are 1982 to 1999, and 00 to 81 are 2000 to 2081
abbrev pub day_order : ℕ → ℕ
day_order n = cond (nat_le 820000 n) n (n + 1000000)

abbrev pub not_before : ℕ → ℕ → Bool
not_before n m = nat_le (day_order m) (day_order n)
