-- The digits of modalities. Assumes nothing.
use Rattle.std.specs.Prelude.{◌≡◌, ℕ, cond, Some, None, Option, Result, IfOk, ◌==◌}
use Rattle.std.specs.Result.{result_ok}
use Rattle.fields.specs.declared.digits.UnknownDigit.{UnknownDigit}
use Rattle.fields.specs.declared.modalities.Modality.{Modality}
use Rattle.fields.specs.declared.modalities.Modality.TheVariants.{First, Second, Third}

abbrev pub modality_of : ℕ → Option Modality
modality_of n = cond (n == 1) (Some First) (cond (n == 2) (Some Second) (cond (n == 3) (Some Third) None))

abbrev pub modality_digit : Modality → ℕ
modality_digit First = 1
modality_digit Second = 2
modality_digit Third = 3

-- the modality of a digit, or an error where no modality has it
pub record IsModalityOf (n : ℕ) (r : Result Modality UnknownDigit) : Type 0 where
  pub value : result_ok r ≡ modality_of n
  pub back : IfOk r (λ m. modality_digit m ≡ n)
