-- The records that are right where they stand. Assumes nothing.
use Rattle.std.proofs.Common.{◌≡◌, ℕ, List, length, Some, None}
use Rattle.records.specs.Checks.{Check, judged}
use Rattle.reading.specs.Offers.{first_bad, kind_in}
use Rattle.reading.specs.declared.kinds.Kind.{Kind}

-- 80 characters of a kind that pass these checks
pub record Right (kind : Kind) (cs : List Check) (r : List ℕ) : Type 0 where
  pub long : length r ≡ 80
  pub good : first_bad r 0 ≡ None
  pub is : kind_in r ≡ Some kind
  pub passed : judged cs r ≡ None
