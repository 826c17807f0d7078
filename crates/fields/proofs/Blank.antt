-- Blank fields are rows of spaces. Assumes nothing.
use Rattle.std.proofs.Common.{◌≡◌, ℕ, zero, suc, true, eqb, List, [], ◌∷◌, length, replicate, refl, ap, ◌∙◌}
use Rattle.std.proofs.lemmas.Bool.{eqb-true, and_parts}
use Rattle.fields.specs.Blank.{blank}

pub blank_spaces : (n : ℕ) → blank (replicate n 32) ≡ true
blank_spaces zero = refl
blank_spaces (suc n) = blank_spaces n

pub spaces_from_blank : (bs : List ℕ) → blank bs ≡ true → bs ≡ replicate (length bs) 32
spaces_from_blank [] h = refl
spaces_from_blank (b ∷ bs) h =
    let p = and_parts (eqb b 32) (blank bs) h in
    let first = eqb-true b 32 p.0 in
    let rest = spaces_from_blank bs p.1 in
    cc

pub blank_from_spaces : (bs : List ℕ) → bs ≡ replicate (length bs) 32 → blank bs ≡ true
blank_from_spaces bs e = ap blank e ∙ blank_spaces (length bs)
