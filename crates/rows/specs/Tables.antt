-- The three tables of an archive, and what they hold. Assumes nothing.
use Rattle.std.specs.Prelude.{◌≡◌, ℕ, length}
use Rattle.table.specs.Rows.{held, Fills}
use Rattle.rows.specs.Kept.{Rows}
use Rattle.rows.specs.declared.archive.Tables.{Tables}

-- the filled rows
abbrev pub rows_in : Tables → Rows
rows_in t = record {
  accounts = held t.accounts.rows.now t.accounts.filled;
  movements = held t.movements.rows.now t.movements.filled;
  texts = held t.texts.rows.now t.texts.filled;
}

-- how many rows there are, filled or not
pub record Room : Type 0 where
  pub accounts : ℕ
  pub movements : ℕ
  pub texts : ℕ

abbrev pub room_in : Tables → Room
room_in t = record {
  accounts = length t.accounts.rows.now;
  movements = length t.movements.rows.now;
  texts = length t.texts.rows.now;
}

-- tables that were t hold these rows now; every row behind them is as it was, and the memory is the same
pub record Holds (t t' : Tables) (rows : Rows) : Type 0 where
  pub accounts : Fills t.accounts.rows.now t'.accounts.rows.now t'.accounts.filled rows.accounts
  pub movements : Fills t.movements.rows.now t'.movements.rows.now t'.movements.filled rows.movements
  pub texts : Fills t.texts.rows.now t'.texts.rows.now t'.texts.filled rows.texts
  pub accounts_lent : t'.accounts.rows.ghost_name ≡ t.accounts.rows.ghost_name
  pub movements_lent : t'.movements.rows.ghost_name ≡ t.movements.rows.ghost_name
  pub texts_lent : t'.texts.rows.ghost_name ≡ t.texts.rows.ghost_name
