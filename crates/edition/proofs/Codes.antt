-- The codes of the six records, and where they stand. Assumes nothing.
use Rattle.std.proofs.Common.{◌≡◌, ℕ, List, [], ◌∷◌, length, Some, refl, ap, ◌∙◌, arith}
use Rattle.std.proofs.lemmas.Bool.Decides.{nat_tests}
use Rattle.fields.specs.Decimal.{value, decimal}
use Rattle.records.specs.Checks.{columns}
use Rattle.reading.specs.Kinds.{kind_of}
use Rattle.reading.specs.Offers.{kind_in}
use Rattle.reading.specs.declared.kinds.Kind.{Kind}
use Rattle.reading.specs.declared.kinds.Kind.TheVariants.{Account, Movement, Text, Equivalent, AccountEnd, FileEnd}

abbrev pub code_of : Kind → ℕ
code_of Account = 11
code_of Movement = 22
code_of Text = 23
code_of Equivalent = 24
code_of AccountEnd = 33
code_of FileEnd = 88

pub value_of_code : (k : Kind) → value (decimal 2 (code_of k)) ≡ code_of k
value_of_code Account = refl
value_of_code Movement = refl
value_of_code Text = refl
value_of_code Equivalent = refl
value_of_code AccountEnd = refl
value_of_code FileEnd = refl

first_of : (x y : ℕ) (k : Kind) → kind_of x y ≡ Some k → x ∷ y ∷ [] ≡ decimal 2 (code_of k)
first_of x y Account h = grind (arith, nat_tests)
first_of x y Movement h = grind (arith, nat_tests)
first_of x y Text h = grind (arith, nat_tests)
first_of x y Equivalent h = grind (arith, nat_tests)
first_of x y AccountEnd h = grind (arith, nat_tests)
first_of x y FileEnd h = grind (arith, nat_tests)

-- the first two columns of a record spell its code, and a record that they so begin is of that kind
pub code_there : (r : List ℕ) (k : Kind) → length r ≡ 80 → kind_in r ≡ Some k → columns 1 2 r ≡ decimal 2 (code_of k)
code_there [] k long is = absurd (omega arith)
code_there (x ∷ []) k long is = absurd (omega arith)
code_there (x ∷ y ∷ r) k long is = first_of x y k is

kind_in_front : (r : List ℕ) → kind_in r ≡ kind_in (columns 1 2 r)
kind_in_front [] = refl
kind_in_front (x ∷ []) = refl
kind_in_front (x ∷ y ∷ r) = refl

kind_of_code : (k : Kind) → kind_in (decimal 2 (code_of k)) ≡ Some k
kind_of_code Account = refl
kind_of_code Movement = refl
kind_of_code Text = refl
kind_of_code Equivalent = refl
kind_of_code AccountEnd = refl
kind_of_code FileEnd = refl

pub kind_there : (r : List ℕ) (k : Kind) → columns 1 2 r ≡ decimal 2 (code_of k) → kind_in r ≡ Some k
kind_there r k is = kind_in_front r ∙ (ap kind_in is ∙ kind_of_code k)
