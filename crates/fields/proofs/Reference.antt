-- Check digits: a sum's next digit, and two numbers with theirs. Assumes nothing.
use Rattle.std.proofs.Common.{◌≡◌, ℕ, ◌+◌, ◌*◌, ◌/◌, ◌%◌, ◌<◌, List, length, get_or, drop, refl}
use Rattle.std.proofs.lemmas.List.{drop_more}
use Rattle.fields.specs.Reference.{weighted, check_digit}

pub weighted_step : (ws : List ℕ) (i n : ℕ) → i < length ws → weighted (drop i ws) n ≡ get_or ws i 0 * (n % 10) + weighted (drop (i + 1) ws) (n / 10)
weighted_step ws i n h = rw (drop_more ws i 0 h) refl

pub check_8 : check_digit 82546789013 ≡ 8
check_8 = refl

-- a remainder of ten
pub check_0 : check_digit 5 ≡ 0
check_0 = refl
