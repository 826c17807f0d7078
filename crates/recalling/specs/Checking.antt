-- What is answered to tables of any content. Assumes nothing.
use Rattle.std.specs.Prelude.{ℕ, ◌+◌, cond, List, [], ◌∷◌, length, Some, None, Ok, Err, Option, Result, ◌==◌}
use Rattle.std.specs.Option.{option_map}
use Rattle.composing.specs.Parts.{Part, composed}
use Rattle.composing.specs.declared.refusals.Unfit.{Unfit as UnfitNumber}
use Rattle.reading.specs.Progress.{Progress, at_start, refused, after}
use Rattle.rows.specs.Kept.{Rows, movements_of, texts_of}
use Rattle.recalling.specs.Statements.{statement_records}
use Rattle.recalling.specs.declared.refusals.TableRefusal.{TableRefusal}
use Rattle.recalling.specs.declared.refusals.TableRefusal.TheVariants.{Movements, Texts, Unfit, Refused}

-- the record of a layout whose numbers fit
abbrev pub made_or_none : Result (List ℕ) UnfitNumber → List ℕ
made_or_none (Ok r) = r
made_or_none (Err e) = []

abbrev pub record_of : List Part → List ℕ
record_of layout = made_or_none (composed layout)

-- a record composed, and offered to a reading that has come so far: do its numbers fit, and is it taken?
abbrev pub trying : Progress → Result (List ℕ) UnfitNumber → Option TableRefusal
trying p (Err e) = Some (Unfit (p.taken + 1) e.column)
trying p (Ok r) = option_map Refused (refused p r)

abbrev pub unless : {A : Type 0} → Option A → Option A → Option A
unless (Some x) y = Some x
unless None y = y

-- record by record: the first refusal
abbrev pub walked : Progress → List (List Part) → Option TableRefusal
walked p [] = None
walked p (layout ∷ rest) = unless (trying p (composed layout)) (walked (after p (record_of layout)) rest)

-- how many records there are, if none is refused
abbrev pub counted_unless : ℕ → Option TableRefusal → Result ℕ TableRefusal
counted_unless n None = Ok n
counted_unless n (Some x) = Err x

-- one reading for the whole file
abbrev pub offering : Rows → Result ℕ TableRefusal
offering t = counted_unless (length (statement_records t)) (walked at_start (statement_records t))

-- do the counts match the rows
abbrev pub counting : Rows → Result (Unit {0}) TableRefusal
counting t =
    cond (movements_of t.accounts == length t.movements)
    (cond (texts_of t.movements == length t.texts) (Ok tt) (Err Texts))
    (Err Movements)

abbrev pub after_counting : Result (Unit {0}) TableRefusal → Result ℕ TableRefusal → Result ℕ TableRefusal
after_counting (Ok _) answer = answer
after_counting (Err x) answer = Err x

-- the counts first, and then the reading
abbrev pub checking : Rows → Result ℕ TableRefusal
checking t = after_counting (counting t) (offering t)
