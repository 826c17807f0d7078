-- What reads and writes of whole files promise, over the meanings of carriers and outputs. Assumes nothing.
use Rattle.std.specs.Prelude.{◌≡◌, ℕ, ◌+◌, ◌≤◌, true, ◌↔◌, List, [], ◌∷◌, ◌++◌, length, is_ok, Ok, Err, Result}
use Rattle.media.specs.Endings.{Ending}
use Rattle.media.specs.declared.carriers.Fault.{Fault}
use Rattle.reading.specs.declared.refusals.Cause.TheVariants.{Unfinished}
use Rattle.rows.specs.Tables.{Room}
use Rattle.archiving.specs.declared.reads.Counts.{Counts}
use Rattle.archiving.specs.declared.refusals.ReadRefusal.{ReadRefusal}
use Rattle.archiving.specs.declared.refusals.ReadRefusal.TheVariants.{Carrier, Reading, NoRow}
use Rattle.recalling.specs.declared.refusals.WriteRefusal.{WriteRefusal}
use Rattle.guarantee.specs.Files.{CorrectFile, Begins}

-- each table has at least as many rows as there are records
pub record RowForEach (room : Room) (records : List (List ℕ)) : Type 0 where
  pub accounts : length records ≤ room.accounts
  pub movements : length records ≤ room.movements
  pub texts : length records ≤ room.texts

-- the first record that no correct file has there: with those before it, it begins none
pub record FirstWrong (records : List (List ℕ)) : Type 0 where
  pub before : List (List ℕ)
  pub wrong : List ℕ
  pub behind : List (List ℕ)
  pub split : records ≡ before ++ (wrong ∷ behind)
  pub begins : Begins before
  pub breaks : Begins (before ++ (wrong ∷ [])) → ⊥

-- a refusal of the reading at the record of this number
abbrev pub NamesRecord : ℕ → Result Counts ReadRefusal → Type 0
NamesRecord n (Ok counts) = ⊥
NamesRecord n (Err (Carrier fault k)) = ⊥
NamesRecord n (Err (Reading refusal)) = refusal.«record» ≡ n
NamesRecord n (Err (NoRow table k)) = ⊥

-- the early end, as a refusal
abbrev pub early_end : ℕ → Result Counts ReadRefusal
early_end n = Err (Reading (record { cause = Unfinished; «record» = n }))

-- a carrier had these records left and this ending; it was read with this answer, and these records are left now:
-- the read succeeds exactly on a correct file with a clean end; otherwise it names the first wrong record, failing one the
-- carrier's fault, failing that the early end, and draws nothing after it
pub record ReadsWhole (records : List (List ℕ)) (e : Ending) (r : Result Counts ReadRefusal) (left : List (List ℕ)) : Type 0 where
  pub succeeds : (is_ok r ≡ true) ↔ (CorrectFile records × (e ≡ Ok tt))
  pub wrong : (w : FirstWrong records) → NamesRecord (length w.before + 1) r × (left ≡ w.behind)
  pub fault : Begins records → (f : Fault) → e ≡ Err f → r ≡ Err (Carrier f (length records + 1))
  pub early : Begins records → (CorrectFile records → ⊥) → e ≡ Ok tt → r ≡ early_end (length records + 1)
  pub drawn : Begins records → left ≡ []

-- what was read is written back: to the records put before, with a place for each, exactly those are added
pub record WritesBack (records put : List (List ℕ)) (places : ℕ) (r : Result ℕ WriteRefusal) (put' : List (List ℕ)) : Type 0 where
  pub done : r ≡ Ok (length records)
  pub added : put' ≡ put ++ records
