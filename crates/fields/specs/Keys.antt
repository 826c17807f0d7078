-- The digits of keys. Assumes nothing.
use Rattle.std.specs.Prelude.{◌≡◌, ℕ, cond, Some, None, Option, Result, IfOk, ◌==◌}
use Rattle.std.specs.Result.{result_ok}
use Rattle.fields.specs.declared.digits.UnknownDigit.{UnknownDigit}
use Rattle.fields.specs.declared.keys.Key.{Key}
use Rattle.fields.specs.declared.keys.Key.TheVariants.{Debit, Credit}

abbrev pub key_of : ℕ → Option Key
key_of n = cond (n == 1) (Some Debit) (cond (n == 2) (Some Credit) None)

abbrev pub key_digit : Key → ℕ
key_digit Debit = 1
key_digit Credit = 2

-- the key of a digit, or an error where no key has it
pub record IsKeyOf (n : ℕ) (r : Result Key UnknownDigit) : Type 0 where
  pub value : result_ok r ≡ key_of n
  pub back : IfOk r (λ k. key_digit k ≡ n)
