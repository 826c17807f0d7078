-- What a digit stands for. Assumes nothing.
use Rattle.std.specs.Prelude.{◌≡◌, ℕ, ◌⊎◌, List, Some, None, Ok, Err, Result, MatchResult}
use Rattle.records.specs.Checks.{judged, digits}
use Rattle.records.specs.Values.{number_at}
use Rattle.records.specs.declared.refusals.FieldRefusal.{FieldRefusal}
use Rattle.records.specs.declared.refusals.Question.TheVariants.{Value}

-- what the conversion `gives` of the number in columns a to b, which are digits, or the refusal of its form or its value
pub record IsMark {T E : Type 0} (gives : ℕ → Result T E → Type 0) (a b : ℕ) (r : List ℕ) (answer : Result T FieldRefusal) : Type 0 where
  pub told : MatchResult answer (λ t. (None ≡ judged (digits a b) r) × gives (number_at a b r) (Ok t))
      (λ e. (Some e ≡ judged (digits a b) r) ⊎ ((None ≡ judged (digits a b) r) × (e ≡ record { question = Value; column = a }) × ((x : E) × gives (number_at a b r) (Err x))))
