-- The numbers of the layers and of the tables. Assumes nothing.
use Rattle.std.specs.Prelude.{ℕ}
use Rattle.rows.specs.declared.notices.Layer.{Layer}
use Rattle.rows.specs.declared.notices.Layer.TheVariants as layer
use Rattle.rows.specs.declared.tables.TableKind.{TableKind}
use Rattle.rows.specs.declared.tables.TableKind.TheVariants.{Accounts, Movements, Texts}

abbrev pub layer_number : Layer → ℕ
layer_number layer.Carrier = 1
layer_number layer.Reading = 2
layer_number layer.Tables = 3

abbrev pub table_number : TableKind → ℕ
table_number Accounts = 1
table_number Movements = 2
table_number Texts = 3
