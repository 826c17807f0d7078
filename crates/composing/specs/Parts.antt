-- Composing a record part by part, from the left. Assumes nothing.
use Rattle.std.specs.Prelude.{ℕ, suc, Bool, true, cond, List, [], ◌∷◌, ◌++◌, length, replicate, Some, None, Ok, Err, Option, Result}
use Rattle.fields.specs.Decimal.{fits, decimal}
use Rattle.composing.specs.declared.refusals.Unfit.{Unfit}

-- a part is a number in so many digits, so many spaces, or characters as they are
pub data Part : Type 0 where
  spelled : ℕ → ℕ → Part
  spaces : ℕ → Part
  plain : List ℕ → Part

abbrev pub spelled_or_spaces : ℕ → Option ℕ → Part
spelled_or_spaces width (Some n) = spelled width n
spelled_or_spaces width None = spaces width

abbrev pub part_fits : Part → Bool
part_fits (spelled width n) = fits width n
part_fits (spaces width) = true
part_fits (plain cs) = true

abbrev pub part_characters : Part → List ℕ
part_characters (spelled width n) = decimal width n
part_characters (spaces width) = replicate width 32
part_characters (plain cs) = cs

-- one part more behind the characters so far: if it does not fit, its first column is told, and none after it counts
unfoldable pub added : Result (List ℕ) Unfit → Part → Result (List ℕ) Unfit
added (Ok cs) p = cond (part_fits p) (Ok (cs ++ part_characters p)) (Err (record { column = suc (length cs) }))
added (Err e) p = Err e

abbrev pub all_added : Result (List ℕ) Unfit → List Part → Result (List ℕ) Unfit
all_added r [] = r
all_added r (p ∷ ps) = all_added (added r p) ps

unfoldable pub composed : List Part → Result (List ℕ) Unfit
composed ps = all_added (Ok []) ps
