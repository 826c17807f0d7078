-- The rows that a file is kept in: those of its accounts, one after the other. Assumes nothing.
use Rattle.std.specs.Prelude.{ℕ, List, map, length, Some}
use Rattle.std.specs.Option.{option_map}
use Rattle.std.specs.List.{flat_map}
use Rattle.fields.specs.declared.modalities.Modality.{Modality}
use Rattle.records.specs.Checks.{columns}
use Rattle.records.specs.Values.{key_at, modality_at, account_in, movement_in, equivalent_in}
use Rattle.rows.specs.Kept.{Rows}
use Rattle.rows.specs.declared.accounts.AccountRow.{AccountRow}
use Rattle.rows.specs.declared.movements.MovementRow.{MovementRow}
use Rattle.rows.specs.declared.texts.TextRow.{TextRow}
use Rattle.archiving.specs.Entering.{text_row}
use Rattle.guarantee.specs.Files.{Movement, Account}

-- the rows of a text, of a movement, of an account
abbrev pub text_row_of : List ℕ → TextRow
text_row_of r = text_row (columns 5 42 r) (columns 43 80 r)

abbrev pub movement_row_of : Modality → Movement → MovementRow
movement_row_of m v = record {
  movement = movement_in m v.main;
  reference_2 = columns 65 80 v.main;
  texts = length v.texts;
  equivalent = option_map equivalent_in v.equivalent;
}

abbrev pub account_row_of : Account → AccountRow
account_row_of a = record {
  head = account_in a.head;
  name = columns 52 77 a.head;
  movements = length a.movements;
  final_key = Some (key_at 59 a.end);
}

-- the rows of a movement's texts; the rows of an account's movements, and of their texts
abbrev pub texts_in : Movement → List TextRow
texts_in v = map text_row_of v.texts

abbrev pub movements_in : Account → List MovementRow
movements_in a = map (movement_row_of (modality_at 51 a.head)) a.movements

abbrev pub account_texts_in : Account → List TextRow
account_texts_in a = flat_map texts_in a.movements

-- the rows of accounts, one after the other
abbrev pub kept_rows : List Account → Rows
kept_rows accounts = record { accounts = map account_row_of accounts; movements = flat_map movements_in accounts; texts = flat_map account_texts_in accounts }
