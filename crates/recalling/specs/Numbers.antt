-- What the refusals of tables and of writing tell. Assumes nothing.
use Rattle.std.specs.Prelude.{ℕ}
use Rattle.reading.specs.Numbers.{told}
use Rattle.reading.specs.declared.refusals.Told.{Told}
use Rattle.rows.specs.declared.notices.Layer.TheVariants as layer
use Rattle.rows.specs.declared.notices.Notice.{Notice}
use Rattle.recalling.specs.declared.refusals.TableRefusal.{TableRefusal}
use Rattle.recalling.specs.declared.refusals.TableRefusal.TheVariants.{Movements, Texts, Unfit, Refused}
use Rattle.recalling.specs.declared.refusals.WriteRefusal.{WriteRefusal}
use Rattle.recalling.specs.declared.refusals.WriteRefusal.TheVariants.{Tables, NoPlaces}

-- a refusal of the tables themselves
abbrev pub of_tables : ℕ → ℕ → ℕ → Notice
of_tables number n place = record { layer = layer.Tables; number = number; «record» = n; place = place; volume = 0 }

-- a refusal of a reading
abbrev pub of_reading : Told → Notice
of_reading t = record { layer = layer.Reading; number = t.number; «record» = t.«record»; place = t.column; volume = 0 }

abbrev pub table_notice : TableRefusal → Notice
table_notice Movements = of_tables 32 0 1
table_notice Texts = of_tables 32 0 2
table_notice (Unfit n column) = of_tables 33 n column
table_notice (Refused refusal) = of_reading (told refusal)

abbrev pub write_notice : WriteRefusal → Notice
write_notice (Tables refusal) = table_notice refusal
write_notice NoPlaces = of_tables 34 0 0
