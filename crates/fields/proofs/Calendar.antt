-- The order of dates, and some days. Assumes nothing.
use Rattle.std.proofs.Common.{◌≡◌, ℕ, ◌<◌, ◌≤◌, true, false, refl, arith}
use Rattle.std.proofs.lemmas.Bool.Decides.{nat_tests}
use Rattle.fields.specs.Calendar.{day_order, not_before, real_day}

-- dates of six digits in the same place of the order are the same
pub day_order_apart : (n m : ℕ) → n ≤ 999999 → m ≤ 999999 → day_order n ≡ day_order m → n ≡ m
day_order_apart n m h k e = grind (arith, nat_tests)

-- a year from 82 on comes before a year below it
pub centuries : (n m : ℕ) → 820000 ≤ n → n ≤ 999999 → m < 820000 → not_before n m ≡ false
centuries n m h k l = grind (arith, nat_tests)

-- 15 December 1999 is before 14 January 2000, and 31 December 2081 is after 31 December 1999
pub before_2000 : not_before 991215 114 ≡ false
before_2000 = refl

pub after_1999 : not_before 811231 991231 ≡ true
after_1999 = refl

-- 2000 has a 29 February, and 2001 has none
pub leap_day : real_day 229 ≡ true
leap_day = refl

pub no_leap_day : real_day 10229 ≡ false
no_leap_day = refl
