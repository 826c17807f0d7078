-- The numbers of refusals. Assumes nothing.
use Rattle.std.specs.Prelude.{ℕ}
use Rattle.records.specs.declared.refusals.Question.{Question}
use Rattle.records.specs.declared.refusals.Question.TheVariants.{Form, Value, Agreement, Limit}

abbrev pub question_number : Question → ℕ
question_number Form = 5
question_number Value = 6
question_number Agreement = 7
question_number Limit = 8
