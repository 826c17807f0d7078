-- What the refusals of a reading tell: number, record number, column. Assumes nothing.
use Rattle.std.specs.Prelude.{ℕ}
use Rattle.records.specs.Numbers.{question_number}
use Rattle.reading.specs.declared.refusals.Cause.{Cause}
use Rattle.reading.specs.declared.refusals.Cause.TheVariants.{Length, Character, Code, Order, RecordLimit, Field, Unfinished}
use Rattle.reading.specs.declared.refusals.Refusal.{Refusal}
use Rattle.reading.specs.declared.refusals.Told.{Told}

abbrev pub telling : ℕ → Cause → Told
telling n Length = record { number = 1; «record» = n; column = 0 }
telling n (Character c) = record { number = 2; «record» = n; column = c }
telling n Code = record { number = 3; «record» = n; column = 1 }
telling n Order = record { number = 4; «record» = n; column = 1 }
telling n RecordLimit = record { number = 8; «record» = n; column = 1 }
telling n (Field refusal) = record { number = question_number refusal.question; «record» = n; column = refusal.column }
telling n Unfinished = record { number = 9; «record» = n; column = 0 }

abbrev pub told : Refusal → Told
told r = telling r.«record» r.cause
