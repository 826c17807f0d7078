-- What a read answers, what it leaves in the tables and what on the carrier. Assumes nothing.
use Rattle.std.specs.Prelude.{ℕ, ◌+◌, List, [], ◌∷◌, length, Some, None, Ok, Err, Option, Result}
use Rattle.std.specs.Option.{option_map}
use Rattle.media.specs.Endings.{Ending}
use Rattle.reading.specs.Offers.{kind_in}
use Rattle.reading.specs.Progress.{Progress, at_start, refused, after}
use Rattle.reading.specs.Taken.{closing}
use Rattle.reading.specs.declared.kinds.Kind.{Kind}
use Rattle.reading.specs.declared.refusals.Refusal.{Refusal}
use Rattle.rows.specs.Kept.{Rows, no_rows}
use Rattle.rows.specs.Tables.{Room}
use Rattle.rows.specs.declared.tables.TableKind.{TableKind}
use Rattle.archiving.specs.Entering.{entered_as, lacking}
use Rattle.archiving.specs.declared.reads.Counts.{Counts}
use Rattle.archiving.specs.declared.refusals.ReadRefusal.{ReadRefusal}
use Rattle.archiving.specs.declared.refusals.ReadRefusal.TheVariants.{Carrier, Reading, NoRow}

abbrev pub of_kind : {A : Type 0} → A → (Kind → A) → Option Kind → A
of_kind otherwise f None = otherwise
of_kind otherwise f (Some kind) = f kind

-- the rows after a record that a reading takes, having come so far
unfoldable pub entered : Progress → List ℕ → Rows → Rows
entered p o t = of_kind t (entered_as p.account.head.modality o t) (kind_in o)

-- the table without a free row for it
unfoldable pub crowded : Room → Rows → List ℕ → Option TableKind
crowded room t o = of_kind None (lacking room t) (kind_in o)

-- what stops the read at a record: first the reading is asked, then the table. The number told is one more than the
-- records entered.
abbrev pub unless_taken : ℕ → Option Refusal → Option TableKind → Option ReadRefusal
unless_taken n (Some refusal) table = Some (Reading refusal)
unless_taken n None table = option_map (λ k. NoRow k n) table

unfoldable pub stopping : Room → Progress → Rows → List ℕ → Option ReadRefusal
stopping room p t o = unless_taken (p.taken + 1) (refused p o) (crowded room t o)

-- the answer, the rows that the tables then hold, and the records still to come
pub record Outcome : Type 0 where
  pub answer : Result Counts ReadRefusal
  pub rows : Rows
  pub left : List (List ℕ)

abbrev pub counts : Rows → Counts
counts t = record { accounts = length t.accounts; movements = length t.movements; texts = length t.texts }

abbrev pub closed : Rows → Result (Unit {0}) Refusal → Result Counts ReadRefusal
closed t (Ok _) = Ok (counts t)
closed t (Err refusal) = Err (Reading refusal)

-- at the end of the carrier
abbrev pub at_end : Progress → Rows → Ending → Result Counts ReadRefusal
at_end p t (Ok _) = closed t (closing p.phase p.taken)
at_end p t (Err fault) = Err (Carrier fault (p.taken + 1))

abbrev pub unless_stopped : Option ReadRefusal → Rows → List (List ℕ) → Outcome → Outcome
unless_stopped (Some refusal) t left on = record { answer = Err refusal; rows = t; left = left }
unless_stopped None t left on = on

-- record by record, until one stops the read or the carrier ends
abbrev pub outcome : Room → Progress → Rows → List (List ℕ) → Ending → Outcome
outcome room p t [] e = record { answer = at_end p t e; rows = t; left = [] }
outcome room p t (o ∷ rest) e = unless_stopped (stopping room p t o) t rest (outcome room (after p o) (entered p o t) rest e)

-- a read over rows of this room: a new reading, and empty tables
abbrev pub read_of : Room → List (List ℕ) → Ending → Outcome
read_of room records e = outcome room at_start no_rows records e
