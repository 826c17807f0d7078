-- The main promises, whole, and what an audit leaves. Assumes nothing.
use Rattle.std.specs.Prelude.{◌≡◌, ℕ, ◌≤◌, true, ◌↔◌, List, length, is_ok, Option, Result}
use Rattle.reading.specs.declared.refusals.Refusal.{Refusal}
use Rattle.media.specs.Endings.{Ending}
use Rattle.rows.specs.Kept.{Rows}
use Rattle.rows.specs.Tables.{Room, room_in, Holds}
use Rattle.rows.specs.declared.archive.Tables.{Tables}
use Rattle.archiving.specs.Reads.{read_of}
use Rattle.archiving.specs.declared.reads.Counts.{Counts}
use Rattle.archiving.specs.declared.refusals.ReadRefusal.{ReadRefusal}
use Rattle.guarantee.specs.Promises.{RowForEach, ReadsWhole, WritesBack}
use Rattle.guarantee.specs.Runs.{Ran}
use Rattle.guarantee.specs.declared.audits.Audited.{Audited}
use Rattle.guarantee.specs.declared.runs.Call.{Call}

-- these calls are made on a new reading, with room for so many answers, which are these; two carriers with these records and endings are read into tables with so much room, and leave these records and rows;
-- an output had these records put and so many places, and has these put after the first tables are written to it
pub record Promises (calls : List Call) (room₀ : ℕ) (answers : List (Option Refusal)) (room₁ room₂ : Room) (records₁ records₂ : List (List ℕ)) (e₁ e₂ : Ending) (left₁ left₂ : List (List ℕ)) (rows₁ rows₂ : Rows) (put : List (List ℕ)) (places : ℕ) (put' : List (List ℕ)) (x : Audited) : Type 0 where
  -- the records taken always begin a correct file; an offer is granted exactly where it begins one with them, and a close
  -- exactly where they are one
  pub runs : Ran calls room₀ answers x.ran
  -- each read succeeds exactly on a correct file with a clean end, and else names the first thing wrong
  pub first : RowForEach room₁ records₁ → ReadsWhole records₁ e₁ x.first left₁
  pub second : RowForEach room₂ records₂ → ReadsWhole records₂ e₂ x.second left₂
  -- what was read is written back, exactly
  pub back : RowForEach room₁ records₁ → is_ok x.first ≡ true → length records₁ ≤ places → WritesBack records₁ put places x.written put'
  -- equal tables exactly from equal records
  pub apart : RowForEach room₁ records₁ → RowForEach room₂ records₂ → is_ok x.first ≡ true → is_ok x.second ≡ true → (rows₁ ≡ rows₂) ↔ (records₁ ≡ records₂)

-- what a read leaves, for any records and any rows: its answer, the tables, and the records still to come
pub record ReadLeaves (t t' : Tables) (records : List (List ℕ)) (e : Ending) (left : List (List ℕ)) (r : Result Counts ReadRefusal) : Type 0 where
  pub answer : r ≡ (read_of (room_in t) records e).answer
  pub tables : Holds t t' (read_of (room_in t) records e).rows
  pub to_come : left ≡ (read_of (room_in t) records e).left
