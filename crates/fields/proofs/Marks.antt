-- Keys, modalities and their digits undo each other. Assumes nothing.
use Rattle.std.proofs.Common.{◌≡◌, ℕ, Some, refl, arith}
use Rattle.std.proofs.lemmas.Bool.Decides.{nat_tests}
use Rattle.fields.specs.Keys.{key_of, key_digit}
use Rattle.fields.specs.Modalities.{modality_of, modality_digit}
use Rattle.fields.specs.declared.keys.Key.{Key}
use Rattle.fields.specs.declared.keys.Key.TheVariants.{Debit, Credit}
use Rattle.fields.specs.declared.modalities.Modality.{Modality}
use Rattle.fields.specs.declared.modalities.Modality.TheVariants.{First, Second, Third}

pub key_of_digit : (k : Key) → key_of (key_digit k) ≡ Some k
key_of_digit Debit = refl
key_of_digit Credit = refl

pub digit_of_key : (n : ℕ) (k : Key) → key_of n ≡ Some k → key_digit k ≡ n
digit_of_key n Debit h = grind (arith, nat_tests)
digit_of_key n Credit h = grind (arith, nat_tests)

pub modality_of_digit : (m : Modality) → modality_of (modality_digit m) ≡ Some m
modality_of_digit First = refl
modality_of_digit Second = refl
modality_of_digit Third = refl

pub digit_of_modality : (n : ℕ) (m : Modality) → modality_of n ≡ Some m → modality_digit m ≡ n
digit_of_modality n First h = grind (arith, nat_tests)
digit_of_modality n Second h = grind (arith, nat_tests)
digit_of_modality n Third h = grind (arith, nat_tests)
