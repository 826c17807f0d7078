-- The checks of a record: fields from the left, and at each its questions in their order. Assumes nothing.
use Rattle.std.specs.Prelude.{ℕ, ◌-◌, Bool, cond, List, [], ◌∷◌, ◌++◌, take, drop, is_some, Some, None, Option}
use Rattle.fields.specs.Blank.{blank}
use Rattle.fields.specs.Calendar.{real_day}
use Rattle.fields.specs.Codes.{among, currencies, common_concepts}
use Rattle.fields.specs.Decimal.{all_digits, value}
use Rattle.fields.specs.Keys.{key_of}
use Rattle.fields.specs.Modalities.{modality_of}
use Rattle.fields.specs.Reference.{is_reference}
use Rattle.records.specs.declared.refusals.FieldRefusal.{FieldRefusal}
use Rattle.records.specs.declared.refusals.Question.{Question}
use Rattle.records.specs.declared.refusals.Question.TheVariants.{Form, Value, Agreement, Limit}

-- the characters of columns a to b, counted from 1
abbrev pub columns : ℕ → ℕ → List ℕ → List ℕ
columns a b r = take (b - (a - 1)) (drop (a - 1) r)

-- one question at the field of columns `from` to `to`: what must hold of the record
pub record Check : Type 0 where
  pub from : ℕ
  pub to : ℕ
  pub question : Question
  pub holds : List ℕ → Bool

abbrev pub failed : Check → FieldRefusal
failed c = record { question = c.question; column = c.from }

-- the first check that a record fails
unfoldable pub judged : List Check → List ℕ → Option FieldRefusal
judged [] r = None
judged (c ∷ cs) r = cond (c.holds r) (judged cs r) (Some (failed c))

-- what the characters of a field can be asked by themselves
unfoldable pub is_date : List ℕ → Bool
is_date cs = real_day (value cs)

unfoldable pub is_currency : List ℕ → Bool
is_currency cs = among (value cs) currencies

unfoldable pub is_common_concept : List ℕ → Bool
is_common_concept cs = among (value cs) common_concepts

unfoldable pub is_key : List ℕ → Bool
is_key cs = is_some (key_of (value cs))

unfoldable pub is_modality : List ℕ → Bool
is_modality cs = is_some (modality_of (value cs))

unfoldable pub has_check_digit : List ℕ → Bool
has_check_digit cs = is_reference (value cs)

-- one question at the field of columns a to b, by a test of the whole record or of the field's characters
unfoldable pub tested : Question → ℕ → ℕ → (List ℕ → Bool) → List Check
tested q a b test = record { from = a; to = b; question = q; holds = test } ∷ []

abbrev pub asked : Question → ℕ → ℕ → (List ℕ → Bool) → List Check
asked q a b test = tested q a b (λ r. test (columns a b r))

-- the kinds of field, each with the questions of its form and its value
unfoldable pub digits : ℕ → ℕ → List Check
digits a b = asked Form a b all_digits

unfoldable pub spaces : ℕ → ℕ → List Check
spaces a b = asked Form a b blank

unfoldable pub date : ℕ → ℕ → List Check
date a b = digits a b ++ asked Value a b is_date

unfoldable pub currency : ℕ → ℕ → List Check
currency a b = digits a b ++ asked Value a b is_currency

unfoldable pub common_concept : ℕ → ℕ → List Check
common_concept a b = digits a b ++ asked Value a b is_common_concept

unfoldable pub key : ℕ → List Check
key a = digits a a ++ asked Value a a is_key

unfoldable pub modality : ℕ → List Check
modality a = digits a a ++ asked Value a a is_modality

unfoldable pub reference : ℕ → ℕ → List Check
reference a b = digits a b ++ asked Value a b has_check_digit

-- a field that must agree, or stay in a limit
abbrev pub agreeing : ℕ → ℕ → (List ℕ → Bool) → List Check
agreeing a b test = tested Agreement a b test

abbrev pub limited : ℕ → ℕ → (List ℕ → Bool) → List Check
limited a b test = tested Limit a b test
