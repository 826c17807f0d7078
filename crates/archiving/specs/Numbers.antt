-- What the refusals of a read tell. Assumes nothing.
use Rattle.reading.specs.Numbers.{told}
use Rattle.rows.specs.Layers.{table_number}
use Rattle.rows.specs.declared.notices.Layer.TheVariants as layer
use Rattle.rows.specs.declared.notices.Notice.{Notice}
use Rattle.archiving.specs.declared.refusals.ReadRefusal.{ReadRefusal}
use Rattle.archiving.specs.declared.refusals.ReadRefusal.TheVariants.{Carrier, Reading, NoRow}

-- a fault is carried up whole; above the carrier the volume is 0
abbrev pub read_notice : ReadRefusal → Notice
read_notice (Carrier fault n) = record { layer = layer.Carrier; number = fault.number; «record» = n; place = fault.place; volume = fault.volume }
read_notice (Reading refusal) = record {
  layer = layer.Reading;
  number = (told refusal).number;
  «record» = (told refusal).«record»;
  place = (told refusal).column;
  volume = 0;
}
read_notice (NoRow table n) = record { layer = layer.Tables; number = 31; «record» = n; place = table_number table; volume = 0 }
