-- The rows of a statement: the filled rows of the three tables. Assumes nothing.
use Rattle.std.specs.Prelude.{ℕ, ◌+◌, List, [], ◌∷◌}
use Rattle.rows.specs.declared.accounts.AccountRow.{AccountRow}
use Rattle.rows.specs.declared.movements.MovementRow.{MovementRow}
use Rattle.rows.specs.declared.tables.Statement.{Statement}
use Rattle.rows.specs.declared.texts.TextRow.{TextRow}

pub record Rows : Type 0 where
  pub accounts : List AccountRow
  pub movements : List MovementRow
  pub texts : List TextRow

-- the rows that a statement lends
abbrev pub rows_lent : Statement → Rows
rows_lent s = record { accounts = s.accounts.now; movements = s.movements.now; texts = s.texts.now }

-- no rows
abbrev pub no_rows : Rows
no_rows = record { accounts = []; movements = []; texts = [] }

-- a number of each row, summed up
abbrev pub sum : {A : Type 0} → (A → ℕ) → List A → ℕ
sum f [] = 0
sum f (x ∷ rest) = f x + sum f rest

-- how many movements the accounts have, and how many texts the movements
abbrev pub movements_of : List AccountRow → ℕ
movements_of accounts = sum (λ (a : AccountRow). a.movements) accounts

abbrev pub texts_of : List MovementRow → ℕ
texts_of movements = sum (λ (m : MovementRow). m.texts) movements
