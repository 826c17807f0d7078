-- The records of a statement, each by its layout, from the rows of the tables. Assumes nothing.
use Rattle.std.specs.Prelude.{ℕ, ◌+◌, List, [], ◌∷◌, ◌++◌, length, take, drop, Some, None, Option}
use Rattle.values.specs.Balances.{debit_of, credit_of, final_amount}
use Rattle.values.specs.declared.parts.Equivalent.{Equivalent}
use Rattle.values.specs.declared.parts.OpenAccount.{OpenAccount}
use Rattle.values.specs.declared.parts.Turnover.{Turnover}
use Rattle.composing.specs.Layouts.{account_layout, movement_layout, text_layout, equivalent_layout, account_end_layout, file_end_layout}
use Rattle.composing.specs.Parts.{Part}
use Rattle.composing.specs.declared.account_ends.AccountClose.{AccountClose}
use Rattle.rows.specs.Kept.{Rows, texts_of}
use Rattle.rows.specs.declared.accounts.AccountRow.{AccountRow}
use Rattle.rows.specs.declared.movements.MovementRow.{MovementRow}
use Rattle.rows.specs.declared.texts.TextRow.{TextRow}

-- the texts of a movement after so many others, numbered on
abbrev pub text_records : ℕ → List TextRow → List (List Part)
text_records n [] = []
text_records n (t ∷ rest) = text_layout (n + 1) t.first t.second ∷ text_records (n + 1) rest

abbrev pub equivalent_records : Option Equivalent → List (List Part)
equivalent_records None = []
equivalent_records (Some e) = equivalent_layout e ∷ []

-- a movement, its texts, its equivalent
abbrev pub movement_records : MovementRow → List TextRow → List (List Part)
movement_records m texts = movement_layout m.movement m.reference_2 ∷ (text_records 0 texts ++ equivalent_records m.equivalent)

-- each movement has the next texts, as many as its row says
abbrev pub movements_records : List MovementRow → List TextRow → List (List Part)
movements_records [] texts = []
movements_records (m ∷ rest) texts = movement_records m (take m.texts texts) ++ movements_records rest (drop m.texts texts)

-- the debits and the credits among movements: how many, and their total
abbrev pub debits_of : List MovementRow → Turnover
debits_of [] = record { count = 0; total = 0 }
debits_of (m ∷ rest) = record { count = debit_of m.movement.key 1 + (debits_of rest).count; total = debit_of m.movement.key m.movement.amount + (debits_of rest).total }

abbrev pub credits_of : List MovementRow → Turnover
credits_of [] = record { count = 0; total = 0 }
credits_of (m ∷ rest) = record { count = credit_of m.movement.key 1 + (credits_of rest).count; total = credit_of m.movement.key m.movement.amount + (credits_of rest).total }

-- the end of an account with these movements: counts, totals and the final balance are worked out
abbrev pub turned_over : AccountRow → List MovementRow → OpenAccount
turned_over a own = record { head = a.head; debits = debits_of own; credits = credits_of own }

abbrev pub close_of : AccountRow → List MovementRow → AccountClose
close_of a own = record {
  number = a.head.number;
  debits = debits_of own;
  credits = credits_of own;
  key = a.final_key;
  amount = final_amount (turned_over a own);
  currency = a.head.currency;
}

-- an account, its movements, its end
abbrev pub account_records : AccountRow → List MovementRow → List TextRow → List (List Part)
account_records a own texts = account_layout a.head a.name ∷ (movements_records own texts ++ (account_end_layout (close_of a own) ∷ []))

-- each account has the next movements, as many as its row says
abbrev pub accounts_records : List AccountRow → List MovementRow → List TextRow → List (List Part)
accounts_records [] movements texts = []
accounts_records (a ∷ rest) movements texts =
    account_records a (take a.movements movements) (take (texts_of (take a.movements movements)) texts)
    ++ accounts_records rest (drop a.movements movements) (drop (texts_of (take a.movements movements)) texts)

-- the records before the file end, and the file end, which tells how many they are
abbrev pub before_end : Rows → List (List Part)
before_end t = accounts_records t.accounts t.movements t.texts

abbrev pub statement_records : Rows → List (List Part)
statement_records t = before_end t ++ (file_end_layout (length (before_end t)) ∷ [])
