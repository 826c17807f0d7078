-- Decimal fields of every width: what is written reads as it was, and what reads is written as it stood.
-- Assumes nothing.
use Rattle.std.proofs.Common.{◌≡◌, ℕ, IfNone, IfSome, IsTrue, MatchOption, zero, suc, ◌+◌, ◌-◌, ◌*◌, ◌/◌, ◌%◌, ◌^◌, ◌<◌, ◌≤◌, Bool, true, false, cond, ◌&&◌, ltb, leb, List, [], ◌∷◌, ◌++◌, length, get_or, drop, Some, None, Option, sym, refl, ap, ◌∙◌, ⊎_elim, add-zero, mul-le-mul_right, mul_assoc, pow-suc, zero-add, add-one, arith}
use native.Mathlib.Nat.{pow-succ', pow-le-pow_right}
use Rattle.std.proofs.Math.Nat.{one-le-pow}
use Rattle.std.proofs.lemmas.List.{append-nil, append_assoc, length_push, drop_more, drop_all}
use Rattle.std.proofs.lemmas.Bool.{leb-true, le-leb, lt-ltb, le-ltb, ltb-true, and_parts, and_from, and_right, cases_lt, cond-true, cond-false}
use Rattle.fields.specs.Decimal.{is_digit, all_digits, value_from, value, number_from, number, fits, decimal}

-- a digit is a byte from 48 to 57
pub digit_bounds : (b : ℕ) → is_digit b ≡ true → (48 ≤ b) × (b ≤ 57)
digit_bounds b h =
    let p = and_parts (leb 48 b) (leb b 57) h in
    (leb-true 48 b p.0, leb-true b 57 p.1)

pub digit_from_bounds : (b : ℕ) → 48 ≤ b → b ≤ 57 → is_digit b ≡ true
digit_from_bounds b low high = and_from (leb 48 b) (leb b 57) (le-leb 48 b low) (le-leb b 57 high)

pub digit_at : (bs : List ℕ) (i : ℕ) → all_digits bs ≡ true → i < length bs → is_digit (get_or bs i 0) ≡ true
digit_at [] i h l = absurd (omega arith)
digit_at (b ∷ bs) zero h l = (and_parts (is_digit b) (all_digits bs) h).0
digit_at (b ∷ bs) (suc i) h l = digit_at bs i (and_parts (is_digit b) (all_digits bs) h).1 (omega arith)

pub all_digits_append : (xs ys : List ℕ) → all_digits xs ≡ true → all_digits ys ≡ true → all_digits (xs ++ ys) ≡ true
all_digits_append [] ys h k = k
all_digits_append (x ∷ xs) ys h k =
    let p = and_parts (is_digit x) (all_digits xs) h in
    and_from (is_digit x) (all_digits (xs ++ ys)) p.0 (all_digits_append xs ys p.1 k)

-- the written field
pub length-decimal : (w n : ℕ) → length (decimal w n) ≡ w
length-decimal zero n = refl
length-decimal (suc w) n = omega (arith, length_push (decimal w (n / 10)) (48 + n % 10), length-decimal w (n / 10))

pub digits_decimal : (w n : ℕ) → all_digits (decimal w n) ≡ true
digits_decimal zero n = refl
digits_decimal (suc w) n =
    all_digits_append (decimal w (n / 10)) ((48 + n % 10) ∷ []) (digits_decimal w (n / 10))
    (and_from (is_digit (48 + n % 10)) true (digit_from_bounds (48 + n % 10) (omega arith) (omega arith)) refl)

-- one digit more at the end
value_push : (n : ℕ) (bs : List ℕ) (b : ℕ) → value_from n (bs ++ (b ∷ [])) ≡ 10 * value_from n bs + (b - 48)
value_push n [] b = refl
value_push n (c ∷ bs) b = value_push (10 * n + (c - 48)) bs b

-- the power of ten of the first digit tells whether there is room
power_room : (w n k : ℕ) → 10 ^ k ≤ n → n < 10 * 10 ^ k → ltb k w ≡ fits w n
power_room w n k at_least below =
    ⊎_elim
    (λ (h : k < w).
    let wide : 10 ^ suc k ≤ 10 ^ w = pow-le-pow_right (omega arith) h in
    lt-ltb k w h ∙ sym (lt-ltb n (10 ^ w) (omega (arith, pow-suc 10 k))))
    (λ (h : w ≤ k).
    let short : 10 ^ w ≤ 10 ^ k = pow-le-pow_right (omega arith) h in
    le-ltb k w h ∙ sym (le-ltb n (10 ^ w) (omega arith)))
    (cases_lt k w)

pub room : (w n : ℕ) (o : Option ℕ) (r : Bool) (P : ℕ → Type 0) → IfNone o (n ≡ 0) → IfSome o (λ k. 10 ^ k ≤ n) → IfSome o (λ k. n < 10 * 10 ^ k) → MatchOption o (IsTrue r) P → ((k : ℕ) → P k → r ≡ ltb k w) → r ≡ fits w n
room w n None r P none at_least below h by =
    h ∙ sym (lt-ltb n (10 ^ w) (omega (arith, one-le-pow w 10 (omega arith))))
room w n (Some k) r P none at_least below h by = by k h ∙ power_room w n k at_least below

pub value_decimal : (w n : ℕ) → n < 10 ^ w → value (decimal w n) ≡ n
value_decimal zero n h = omega arith
value_decimal (suc w) n h =
    let small : n / 10 < 10 ^ w = omega (arith, pow-suc 10 w) in
    omega (arith, value_push 0 (decimal w (n / 10)) (48 + n % 10), value_decimal w (n / 10) small)

-- digits that stand after those of n are written back behind them
decimal_value_from : (k n : ℕ) (bs : List ℕ) → all_digits bs ≡ true → decimal (k + length bs) (value_from n bs) ≡ decimal k n ++ bs
decimal_value_from k n [] h = rw add-zero (sym (append-nil (decimal k n)))
decimal_value_from k n (b ∷ bs) h =
    let p = and_parts (is_digit b) (all_digits bs) h in
    let d = digit_bounds b p.0 in
    let m = 10 * n + (b - 48) in
    let front : m / 10 ≡ n = omega (arith, d) in
    let last : 48 + m % 10 ≡ b = omega (arith, d) in
    let width : k + suc (length bs) ≡ suc k + length bs = omega arith in
    ap (λ (w : ℕ). decimal w (value_from m bs)) width
    ∙ (decimal_value_from (suc k) m bs p.1
    ∙ (append_assoc (decimal k (m / 10)) ((48 + m % 10) ∷ []) bs
    ∙ (ap (λ (v : ℕ). decimal k v ++ ((48 + m % 10) ∷ bs)) front ∙ ap (λ (v : ℕ). decimal k n ++ (v ∷ bs)) last)))

pub decimal_value : (bs : List ℕ) → all_digits bs ≡ true → decimal (length bs) (value bs) ≡ bs
decimal_value bs h = rw zero-add at (decimal_value_from 0 0 bs h)

-- the value of a field has room in it
value_from_below : (n : ℕ) (bs : List ℕ) → all_digits bs ≡ true → value_from n bs < (n + 1) * 10 ^ length bs
value_from_below n [] h = omega arith
value_from_below n (b ∷ bs) h =
    let p = and_parts (is_digit b) (all_digits bs) h in
    let d = digit_bounds b p.0 in
    let m = 10 * n + (b - 48) in
    let rest = value_from_below m bs p.1 in
    let wide : (m + 1) * 10 ^ length bs ≤ ((n + 1) * 10) * 10 ^ length bs = mul-le-mul_right (10 ^ length bs) (omega (arith, d)) in
    let same = mul_assoc (n + 1) 10 (10 ^ length bs) ∙ ap (λ (x : ℕ). (n + 1) * x) (sym (pow-succ' 10 (length bs))) in
    omega (arith, rest, wide, same)

pub value_below : (bs : List ℕ) → all_digits bs ≡ true → value bs < 10 ^ length bs
value_below bs h = omega (arith, value_from_below 0 bs h)

value_from_least : (n : ℕ) (bs : List ℕ) → n ≤ value_from n bs
value_from_least n [] = omega arith
value_from_least n (b ∷ bs) = omega (arith, value_from_least (10 * n + (b - 48)) bs)

-- a field that is read byte by byte: a digit, a byte that is none, a number past 64 bits, the end
pub number_digit : (n : ℕ) (bs : List ℕ) (i : ℕ) → i < length bs → is_digit (get_or bs i 0) ≡ true → number_from n (drop i bs) ≡ number_from (10 * n + (get_or bs i 0 - 48)) (drop (i + 1) bs)
number_digit n bs i h d = rw (drop_more bs i 0 h, d) refl

pub number_no_digit : (n : ℕ) (bs : List ℕ) (i : ℕ) → i < length bs → is_digit (get_or bs i 0) ≡ false → number_from n (drop i bs) ≡ None
number_no_digit n bs i h d = rw (drop_more bs i 0 h, d) refl

pub number_past : (n : ℕ) (bs : List ℕ) (i : ℕ) → i < length bs → is_digit (get_or bs i 0) ≡ true → 2 ^ 64 ≤ 10 * n + (get_or bs i 0 - 48) → number_from n (drop i bs) ≡ None
number_past n bs i h d past =
    let rest = drop (i + 1) bs in
    let m = 10 * n + (get_or bs i 0 - 48) in
    let large = le-ltb (value_from m rest) (2 ^ 64) (omega (arith, value_from_least m rest)) in
    number_digit n bs i h d ∙ cond-false (all_digits rest && ltb (value_from m rest) (2 ^ 64)) _ _ (and_right (all_digits rest) _ large)

pub number_end : (n : ℕ) (bs : List ℕ) (i : ℕ) → length bs ≤ i → n < 2 ^ 64 → number_from n (drop i bs) ≡ Some n
number_end n bs i h small = rw (drop_all i bs h, lt-ltb n (2 ^ 64) small) refl

-- up to 19 digits always have room in 64 bits
pub number_short : (bs : List ℕ) → length bs ≤ 19 → number bs ≡ cond (all_digits bs) (Some (value bs)) None
number_short bs short = go (all_digits bs) refl
  where
    go : (b : Bool) → all_digits bs ≡ b → cond (b && ltb (value bs) (2 ^ 64)) (Some (value bs)) None ≡ cond b (Some (value bs)) None
    go false h = refl
    go true h =
        let room : 10 ^ length bs ≤ 10 ^ 19 = pow-le-pow_right (omega arith) short in
        cond-true (ltb (value bs) (2 ^ 64)) _ _ (lt-ltb (value bs) (2 ^ 64) (omega (arith, value_below bs h)))

-- a field that reads as a number
pub number_some : (bs : List ℕ) (n : ℕ) → number bs ≡ Some n → (all_digits bs ≡ true) × (value bs ≡ n) × (n < 2 ^ 64)
number_some bs n h = go (all_digits bs) (ltb (value bs) (2 ^ 64)) refl refl h
  where
    go : (b t : Bool) → all_digits bs ≡ b → ltb (value bs) (2 ^ 64) ≡ t → cond (b && t) (Some (value bs)) None ≡ Some n → (all_digits bs ≡ true) × (value bs ≡ n) × (n < 2 ^ 64)
    go false t p q e = absurd (let z : ◌≡◌ {A = ℕ} 0 1 = cc in omega arith)
    go true false p q e = absurd (let z : ◌≡◌ {A = ℕ} 0 1 = cc in omega arith)
    go true true p q e =
        let same : value bs ≡ n = cc in
        (p, same, omega (arith, ltb-true (value bs) (2 ^ 64) q))

-- a number that is written reads as it was
pub number_decimal : (w n : ℕ) → n < 10 ^ w → n < 2 ^ 64 → number (decimal w n) ≡ Some n
number_decimal w n room small =
    let same = value_decimal w n room in
    rw (digits_decimal w n, same, lt-ltb n (2 ^ 64) small) refl

-- a number that was read is written as it stood
pub decimal_number : (bs : List ℕ) (n : ℕ) → number bs ≡ Some n → decimal (length bs) n ≡ bs
decimal_number bs n h =
    let p = number_some bs n h in
    ap (decimal (length bs)) (sym p.1) ∙ decimal_value bs p.0

pub number_below : (bs : List ℕ) (n : ℕ) → number bs ≡ Some n → n < 10 ^ length bs
number_below bs n h =
    let p = number_some bs n h in
    omega (arith, value_below bs p.0, p.1)

-- a field that is filled from its last place on
pub filled : (w n : ℕ) (rest : List ℕ) → decimal (w + 1) n ++ rest ≡ decimal w (n / 10) ++ ((48 + n % 10) ∷ rest)
filled w n rest = rw add-one (append_assoc (decimal w (n / 10)) ((48 + n % 10) ∷ []) rest)

-- what reading a field rests on, and what filling one does
pub ruleset reading = (number_digit, number_no_digit, number_past, number_end, decimal_number)

pub ruleset writing = (filled, number_decimal)
