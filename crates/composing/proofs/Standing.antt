-- The parts of a composition stand one behind the other. Assumes nothing.
use Rattle.std.proofs.Common.{◌≡◌, ℕ, zero, suc, ◌+◌, ◌-◌, ◌^◌, ◌<◌, ◌≤◌, Bool, true, false, cond, ◌&&◌, List, [], ◌∷◌, ◌++◌, length, take, drop, replicate, IfOk, Ok, Err, Result, sym, refl, ap, ◌∙◌, subst, ⊎_elim, arith}
use Rattle.std.specs.List.{flat_map, AllByRecursion}
use Rattle.std.proofs.ByRecursion.{All-append, All-drop}
use Rattle.std.proofs.lemmas.List.{append-nil, append_assoc, length-append, length-replicate, take-append-drop, take_at, drop_at, take-take, drop-drop, drop-take}
use Rattle.std.proofs.lemmas.Bool.{false≢true, ltb-true, and_parts, and_from, cases_lt}
use Rattle.fields.specs.Blank.{blank}
use Rattle.fields.specs.Decimal.{is_digit, all_digits, value, decimal}
use Rattle.fields.proofs.Decimal.{digit_bounds, all_digits_append, length-decimal, digits_decimal, value_decimal}
use Rattle.charset.specs.Characters.{is_character}
use Rattle.records.specs.Checks.{columns}
use Rattle.records.specs.Values.{number_at}
use Rattle.composing.specs.Parts.{Part, spelled, spaces, plain, part_fits, part_characters, added, all_added, composed}
use Rattle.composing.specs.Records.{Characters}
use Rattle.composing.specs.declared.refusals.Unfit.{Unfit}

-- the columns of a part
abbrev pub width : Part → ℕ
width (spelled w n) = w
width (spaces w) = w
width (plain cs) = length cs

abbrev pub widths : List Part → ℕ
widths [] = 0
widths (p ∷ ps) = width p + widths ps

-- the characters of parts
abbrev pub spread : List Part → List ℕ
spread ps = flat_map part_characters ps

abbrev pub Fit : List Part → Type 0
Fit ps = AllByRecursion (λ p. part_fits p ≡ true) ps

still : (e : Unfit) (ps : List Part) → all_added (Err e) ps ≡ Err e
unfolding added
still e [] = refl
still e (p ∷ ps) = still e ps

behind : (cs : List ℕ) (ps : List Part) (r : List ℕ) → all_added (Ok cs) ps ≡ Ok r → (r ≡ cs ++ spread ps) × Fit ps
unfolding added
behind cs [] r h = let e : r ≡ cs = cc in (e ∙ sym (append-nil cs), tt)
behind cs (p ∷ ps) r h = go (part_fits p) refl (behind (cs ++ part_characters p) ps r) h
  where
    go : (b : Bool) → part_fits p ≡ b → (all_added (Ok (cs ++ part_characters p)) ps ≡ Ok r → (r ≡ (cs ++ part_characters p) ++ spread ps) × Fit ps) → all_added (cond b (Ok (cs ++ part_characters p)) (Err (record { column = suc (length cs) }))) ps ≡ Ok r → (r ≡ cs ++ (part_characters p ++ spread ps)) × ((part_fits p ≡ true) × Fit ps)
    go true fit more k = ((more k).0 ∙ append_assoc cs (part_characters p) (spread ps), (fit, (more k).1))
    go false fit more k =
        let stopped = still (record { column = suc (length cs) }) ps in
        absurd (let z : ◌≡◌ {A = ℕ} 0 1 = cc in omega arith)

pub composed_is : (ps : List Part) (r : List ℕ) → composed ps ≡ Ok r → (r ≡ spread ps) × Fit ps
unfolding composed
composed_is ps r h = behind [] ps r h

-- what holds of each composition holds of a record composed
pub made_of : (ps : List Part) (P : List ℕ → Type 0) (answer : Result (List ℕ) Unfit) → answer ≡ composed ps → ((r : List ℕ) → composed ps ≡ Ok r → P r) → IfOk answer P
made_of ps P (Ok r) h all = all r (sym h)
made_of ps P (Err e) h all = tt

length_part : (p : Part) → length (part_characters p) ≡ width p
length_part (spelled w n) = length-decimal w n
length_part (spaces w) = length-replicate w 32
length_part (plain cs) = refl

pub length-spread : (ps : List Part) → length (spread ps) ≡ widths ps
length-spread [] = refl
length-spread (p ∷ ps) = omega (arith, length-append (part_characters p) (spread ps), length_part p, length-spread ps)

pub length-composed : (ps : List Part) (r : List ℕ) → composed ps ≡ Ok r → length r ≡ widths ps
length-composed ps r is = ap length (composed_is ps r is).0 ∙ length-spread ps

pub spread_append : (ps qs : List Part) → spread (ps ++ qs) ≡ spread ps ++ spread qs
spread_append [] qs = refl
spread_append (p ∷ ps) qs =
    ap (λ cs. part_characters p ++ cs) (spread_append ps qs) ∙ sym (append_assoc (part_characters p) (spread ps) (spread qs))

-- the columns of parts that stand behind others
middle : (us ps vs : List Part) (a b : ℕ) → a ≡ suc (widths us) → b ≡ widths us + widths ps → columns a b (spread (us ++ (ps ++ vs))) ≡ spread ps
middle us ps vs a b from to =
    let before : length (spread us) ≡ a - 1 = omega (arith, length-spread us) in
    let long : length (spread ps) ≡ b - (a - 1) = omega (arith, length-spread ps) in
    let split = spread_append us (ps ++ vs) ∙ ap (λ cs. spread us ++ cs) (spread_append ps vs) in
    ap (λ cs. take (b - (a - 1)) (drop (a - 1) cs)) split
    ∙ (ap (take (b - (a - 1))) (drop_at (spread us) (spread ps ++ spread vs) (a - 1) before) ∙ take_at (spread ps) (spread vs) (b - (a - 1)) long)

-- j parts from the k-th on, counted from 0
pub span : (ps : List Part) (r : List ℕ) → composed ps ≡ Ok r → (k j a b : ℕ) → a ≡ suc (widths (take k ps)) → b ≡ widths (take k ps) + widths (take j (drop k ps)) → columns a b r ≡ spread (take j (drop k ps))
span ps r is k j a b from to =
    let whole : ps ≡ take k ps ++ (take j (drop k ps) ++ drop j (drop k ps)) = sym (ap (λ qs. take k ps ++ qs) (take-append-drop j (drop k ps)) ∙ take-append-drop k ps) in
    ap (columns a b) ((composed_is ps r is).0 ∙ ap spread whole) ∙ middle (take k ps) (take j (drop k ps)) (drop j (drop k ps)) a b from to

-- the k-th part alone
pub part_there : (ps : List Part) (r : List ℕ) → composed ps ≡ Ok r → (k a b : ℕ) {p : Part} {after : List Part} → drop k ps ≡ p ∷ after → a ≡ suc (widths (take k ps)) → b ≡ widths (take k ps) + width p → columns a b r ≡ part_characters p
part_there ps r is k a b {p} here from to =
    let one = ap (take 1) here in
    let alone = ap spread one ∙ append-nil (part_characters p) in
    span ps r is k 1 a b from (to ∙ ap (λ w. widths (take k ps) + w) (let e : width p ≡ width p + 0 = omega arith in e ∙ sym (ap widths one))) ∙ alone

-- a number reads as it was
pub number_there : (ps : List Part) (r : List ℕ) → composed ps ≡ Ok r → (k a b : ℕ) {w n : ℕ} {after : List Part} → drop k ps ≡ spelled w n ∷ after → a ≡ suc (widths (take k ps)) → b ≡ widths (take k ps) + w → number_at a b r ≡ n
number_there ps r is k a b {w} {n} here from to =
    let fit = subst Fit here (All-drop (λ p. part_fits p ≡ true) k ps (composed_is ps r is).1) in
    ap value (part_there ps r is k a b here from to) ∙ value_decimal w n (ltb-true n (10 ^ w) fit.0)

blank_replicate : (w : ℕ) → blank (replicate w 32) ≡ true
blank_replicate zero = refl
blank_replicate (suc w) = blank_replicate w

pub spaces_there : (ps : List Part) (r : List ℕ) → composed ps ≡ Ok r → (k a b : ℕ) {w : ℕ} {after : List Part} → drop k ps ≡ spaces w ∷ after → a ≡ suc (widths (take k ps)) → b ≡ widths (take k ps) + w → blank (columns a b r) ≡ true
spaces_there ps r is k a b {w} here from to = ap blank (part_there ps r is k a b here from to) ∙ blank_replicate w

-- numbers one behind the other are digits
abbrev pub all_spelled : List Part → Bool
all_spelled [] = true
all_spelled (spelled w n ∷ ps) = all_spelled ps
all_spelled (spaces w ∷ ps) = false
all_spelled (plain cs ∷ ps) = false

digits_spread : (ps : List Part) → all_spelled ps ≡ true → all_digits (spread ps) ≡ true
digits_spread [] h = refl
digits_spread (spelled w n ∷ ps) h = all_digits_append (decimal w n) (spread ps) (digits_decimal w n) (digits_spread ps h)
digits_spread (spaces w ∷ ps) h = absurd (false≢true h)
digits_spread (plain cs ∷ ps) h = absurd (false≢true h)

pub digits_there : (ps : List Part) (r : List ℕ) → composed ps ≡ Ok r → (k j a b : ℕ) → all_spelled (take j (drop k ps)) ≡ true → a ≡ suc (widths (take k ps)) → b ≡ widths (take k ps) + widths (take j (drop k ps)) → all_digits (columns a b r) ≡ true
digits_there ps r is k j a b numbers from to = ap all_digits (span ps r is k j a b from to) ∙ digits_spread (take j (drop k ps)) numbers

-- a part of digits is digits
digits_take : (n : ℕ) (cs : List ℕ) → all_digits cs ≡ true → all_digits (take n cs) ≡ true
digits_take zero cs h = refl
digits_take (suc n) [] h = refl
digits_take (suc n) (b ∷ cs) h =
    let p = and_parts (is_digit b) (all_digits cs) h in
    and_from (is_digit b) (all_digits (take n cs)) p.0 (digits_take n cs p.1)

digits_drop : (n : ℕ) (cs : List ℕ) → all_digits cs ≡ true → all_digits (drop n cs) ≡ true
digits_drop zero cs h = h
digits_drop (suc n) [] h = refl
digits_drop (suc n) (b ∷ cs) h = digits_drop n cs (and_parts (is_digit b) (all_digits cs) h).1

-- the columns a to b among those from c to d
columns_within : (c d a b : ℕ) (r : List ℕ) → 1 ≤ c → c ≤ a → a ≤ b → b ≤ d → columns a b r ≡ take (b - (a - 1)) (drop (a - c) (columns c d r))
columns_within c d a b r first low some high =
    let far : d - (c - 1) ≡ (a - c) + (d - (a - 1)) = omega arith in
    let on : (c - 1) + (a - c) ≡ a - 1 = omega arith in
    let rest = ap (λ n. drop (a - c) (take n (drop (c - 1) r))) far ∙ (drop-take (a - c) (d - (a - 1)) (drop (c - 1) r) ∙ ap (take (d - (a - 1))) (drop-drop (a - c) (c - 1) r ∙ ap (λ n. drop n r) on)) in
    sym (ap (take (b - (a - 1))) rest ∙ take-take (b - (a - 1)) (d - (a - 1)) (drop (a - 1) r) (omega arith))

pub digits_within : (c d a b : ℕ) (r : List ℕ) → all_digits (columns c d r) ≡ true → 1 ≤ c → c ≤ a → a ≤ b → b ≤ d → all_digits (columns a b r) ≡ true
digits_within c d a b r h first low some high =
    ap all_digits (columns_within c d a b r first low some high) ∙ digits_take (b - (a - 1)) (drop (a - c) (columns c d r)) (digits_drop (a - c) (columns c d r) h)

-- a test that is passed below a number, by computing
abbrev passed_below : (ℕ → Bool) → ℕ → Bool
passed_below test zero = true
passed_below test (suc n) = test n && passed_below test n

passed : (test : ℕ → Bool) (n k : ℕ) → passed_below test n ≡ true → k < n → test k ≡ true
passed test zero k h l = absurd (omega arith)
passed test (suc n) k h l =
    let p = and_parts (test n) (passed_below test n) h in
    ⊎_elim
    (λ (e : k < n). passed test n k p.1 e)
    (λ (e : n ≤ k). let same : k ≡ n = omega arith in ap test same ∙ p.0)
    (cases_lt k n)

-- digits and spaces are characters
pub digit_character : (b : ℕ) → is_digit b ≡ true → is_character b ≡ true
unfolding is_character
digit_character b h =
    let d = digit_bounds b h in
    let digit : 48 + (b - 48) ≡ b = omega (arith, d) in
    subst (λ x. is_character x ≡ true) digit (passed (λ k. is_character (48 + k)) 10 (b - 48) refl (omega (arith, d)))

pub digit_characters : (cs : List ℕ) → all_digits cs ≡ true → Characters cs
digit_characters [] h = tt
digit_characters (b ∷ cs) h =
    let p = and_parts (is_digit b) (all_digits cs) h in
    (digit_character b p.0, digit_characters cs p.1)

pub space_characters : (w : ℕ) → Characters (replicate w 32)
unfolding is_character
space_characters zero = tt
space_characters (suc w) = (refl, space_characters w)

-- the texts of parts are characters
abbrev pub Lettered : List Part → Type 0
Lettered [] = Unit {0}
Lettered (spelled w n ∷ ps) = Lettered ps
Lettered (spaces w ∷ ps) = Lettered ps
Lettered (plain cs ∷ ps) = Characters cs × Lettered ps

characters_spread : (ps : List Part) → Lettered ps → Characters (spread ps)
characters_spread [] h = tt
characters_spread (spelled w n ∷ ps) h = All-append _ (decimal w n) (spread ps) (digit_characters (decimal w n) (digits_decimal w n)) (characters_spread ps h)
characters_spread (spaces w ∷ ps) h = All-append _ (replicate w 32) (spread ps) (space_characters w) (characters_spread ps h)
characters_spread (plain cs ∷ ps) h = All-append _ cs (spread ps) h.0 (characters_spread ps h.1)

pub characters_there : (ps : List Part) (r : List ℕ) → composed ps ≡ Ok r → Lettered ps → Characters r
characters_there ps r is h = subst Characters (sym (composed_is ps r is).0) (characters_spread ps h)
