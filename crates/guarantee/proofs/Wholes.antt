-- Reads and writes of whole files. Assumes nothing.
use Rattle.std.proofs.Common.{◌≡◌, ℕ, ◌+◌, ◌≤◌, true, ◌↔◌, List, [], ◌∷◌, ◌++◌, length, is_ok, Some, None, Ok, Err, Option, Result, sym, refl, ap, ◌∙◌, subst, append-nil, arith, length-append}
use Rattle.std.proofs.lemmas.Bool.{false≢true, le-leb}
use Rattle.media.specs.Endings.{Ending}
use Rattle.reading.specs.Progress.{Progress, at_start, refused}
use Rattle.reading.specs.Taken.{closing, unfinished}
use Rattle.reading.specs.declared.phases.Phase.{Phase}
use Rattle.reading.specs.declared.phases.Phase.TheVariants.{Start, Between, Opened, Texts, Converted, Ended}
use Rattle.reading.specs.declared.refusals.Refusal.{Refusal}
use Rattle.rows.specs.Kept.{Rows, no_rows}
use Rattle.rows.specs.Tables.{Room}
use Rattle.archiving.specs.Reads.{Outcome, closed, at_end, read_of}
use Rattle.archiving.specs.declared.reads.Counts.{Counts}
use Rattle.archiving.specs.declared.refusals.ReadRefusal.{ReadRefusal}
use Rattle.archiving.specs.declared.refusals.ReadRefusal.TheVariants.{Carrier, Reading}
use Rattle.recalling.specs.Checking.{checking}
use Rattle.recalling.specs.Statements.{statement_records}
use Rattle.recalling.specs.Writing.{records_of, placed, writing, Written}
use Rattle.recalling.specs.declared.refusals.WriteRefusal.{WriteRefusal}
use Rattle.guarantee.specs.Files.{CorrectFile, Begins}
use Rattle.guarantee.specs.Promises.{RowForEach, FirstWrong, NamesRecord, early_end, ReadsWhole, WritesBack}
use Rattle.guarantee.proofs.Offers.{standing_all, accepted_all, Offered, all_taken, one_refused, offered, refused_number, stopped_at}
use Rattle.guarantee.proofs.KeptChecks.{Accepted, file_checked}
use Rattle.guarantee.proofs.KeptRecords.{file_again}
use Rattle.guarantee.proofs.KeptRoom.{RoomFor, all_entered}
use Rattle.guarantee.specs.KeptIn.{kept_rows}
use Rattle.guarantee.proofs.KeptRows.{after_all, entered_all, file_entered}
use Rattle.guarantee.proofs.Laws.{Standing, standing_start, taken_begins, close_correct}

-- a correct file begins one
pub file_begins : (records : List (List ℕ)) → CorrectFile records → Begins records
file_begins records c = record { rest = []; correct = subst CorrectFile (sym (append-nil records)) c }

-- what begins a file is taken from the start
pub accepted : (records : List (List ℕ)) → Begins records → Accepted at_start records
accepted records b = accepted_all at_start [] records standing_start b

pub standing : (records : List (List ℕ)) → Accepted at_start records → Standing (after_all at_start records) records
standing records taken = standing_all at_start [] records standing_start taken

-- a close that is not granted is the early end
not_granted : (phase : Phase) (n : ℕ) → (closing phase n ≡ Ok tt → ⊥) → closing phase n ≡ unfinished n
not_granted Start n h = refl
not_granted Between n h = refl
not_granted Opened n h = refl
not_granted (Texts k) n h = refl
not_granted Converted n h = refl
not_granted Ended n h = absurd (h refl)

-- an answer at the end that is a success
ended_well : (p : Progress) (t : Rows) (e : Ending) → is_ok (at_end p t e) ≡ true → (closing p.phase p.taken ≡ Ok tt) × (e ≡ Ok tt)
ended_well p t (Err f) h = absurd (false≢true h)
ended_well p t (Ok tt) h = (go (closing p.phase p.taken) h, refl)
  where
    go : (x : Result (Unit {0}) Refusal) → is_ok (closed t x) ≡ true → x ≡ Ok tt
    go (Ok tt) h = refl
    go (Err refusal) h = absurd (false≢true h)

module _ (room : Room) (records : List (List ℕ)) (e : Ending) (each : RowForEach room records) where
  room_for : (l : List (List ℕ)) → length l ≤ length records → RoomFor room no_rows (length l)
  room_for l le = record { accounts = omega (arith, le, each.accounts); movements = omega (arith, le, each.movements); texts = omega (arith, le, each.texts) }

  -- where all records are taken
  whole : Accepted at_start records → read_of room records e ≡ record { answer = at_end (after_all at_start records) (entered_all at_start no_rows records) e; rows = entered_all at_start no_rows records; left = [] }
  whole taken = all_entered room at_start no_rows records e taken (room_for records (omega arith))

  at_the_end : Accepted at_start records → (read_of room records e).answer ≡ at_end (after_all at_start records) (entered_all at_start no_rows records) e
  at_the_end taken = ap (λ (o : Outcome). o.answer) (whole taken)

  -- where one is refused
  at_refused : (before : List (List ℕ)) (o : List ℕ) (behind : List (List ℕ)) → records ≡ before ++ (o ∷ behind) → Accepted at_start before → (refusal : Refusal) → refused (after_all at_start before) o ≡ Some refusal → read_of room records e ≡ record { answer = Err (Reading refusal); rows = entered_all at_start no_rows before; left = behind }
  at_refused before o behind split taken refusal stops =
      ap (λ l. read_of room l e) split ∙ stopped_at room at_start no_rows before o behind e refusal taken (room_for before (omega (arith, ap length split, length-append before (o ∷ behind)))) stops

  granted : CorrectFile records → e ≡ Ok tt → is_ok (read_of room records e).answer ≡ true
  granted c clean =
      let taken = accepted records (file_begins records c) in
      let p = after_all at_start records in
      let t = entered_all at_start no_rows records in
      ap is_ok (at_the_end taken ∙ (ap (at_end p t) clean ∙ ap (closed t) ((close_correct (standing records taken)).1 c)))

  correct : is_ok (read_of room records e).answer ≡ true → CorrectFile records × (e ≡ Ok tt)
  correct h = go (offered at_start records)
    where
      go : Offered at_start records → CorrectFile records × (e ≡ Ok tt)
      go (all_taken taken) =
          let w = ended_well (after_all at_start records) (entered_all at_start no_rows records) e (ap is_ok (sym (at_the_end taken)) ∙ h) in
          ((close_correct (standing records taken)).0 w.0, w.1)
      go (one_refused f) = absurd (false≢true (ap is_ok (sym (ap (λ (o : Outcome). o.answer) (at_refused f.before f.offered f.behind f.split f.taken f.refusal f.stops))) ∙ h))

  first_wrong : (w : FirstWrong records) → NamesRecord (length w.before + 1) (read_of room records e).answer × ((read_of room records e).left ≡ w.behind)
  first_wrong w = go (refused (after_all at_start w.before) w.wrong) refl
    where
      taken : Accepted at_start w.before
      taken = accepted w.before w.begins

      go : (x : Option Refusal) → refused (after_all at_start w.before) w.wrong ≡ x → NamesRecord (length w.before + 1) (read_of room records e).answer × ((read_of room records e).left ≡ w.behind)
      go None k = absurd (w.breaks ((taken_begins (standing w.before taken) w.wrong).0 k))
      go (Some refusal) k =
          let is = at_refused w.before w.wrong w.behind w.split taken refusal k in
          let number : refusal.«record» ≡ length w.before + 1 = omega (arith, refused_number (after_all at_start w.before) w.wrong refusal k, (standing w.before taken).many) in
          (subst (NamesRecord (length w.before + 1)) (sym (ap (λ (o : Outcome). o.answer) is)) number, ap (λ (o : Outcome). o.left) is)

  pub reads_whole : ReadsWhole records e (read_of room records e).answer (read_of room records e).left
  reads_whole = record {
    succeeds = (correct, λ c. granted c.0 c.1);
    wrong = first_wrong;
    fault = λ b f is.
        let taken = accepted records b in
        at_the_end taken ∙ (ap (at_end (after_all at_start records) (entered_all at_start no_rows records)) is ∙ ap (λ n. Err (Carrier f (n + 1))) (standing records taken).many);
    early = λ b no clean.
        let taken = accepted records b in
        let p = after_all at_start records in
        let t = entered_all at_start no_rows records in
        at_the_end taken ∙ (ap (at_end p t) clean ∙ (ap (closed t) (not_granted p.phase p.taken (λ ok. no ((close_correct (standing records taken)).0 ok))) ∙ ap (λ n. early_end (n + 1)) (standing records taken).many));
    drawn = λ b. ap (λ (o : Outcome). o.left) (whole (accepted records b));
  }

  -- what a read that succeeds leaves in the tables
  pub rows_kept : (c : CorrectFile records) → (read_of room records e).rows ≡ kept_rows c.accounts
  rows_kept c = ap (λ (o : Outcome). o.rows) (whole (accepted records (file_begins records c))) ∙ file_entered records c

-- writing what was kept of a correct file, with a place for each record
pub writes_back : (records : List (List ℕ)) (c : CorrectFile records) (t : Rows) (put put' : List (List ℕ)) (places places' : ℕ) (r : Result ℕ WriteRefusal) → t ≡ kept_rows c.accounts → length records ≤ places → r ≡ writing t places → Written t put places put' places' r → WritesBack records put places r put'
writes_back records c t put put' places places' r is enough answer w =
    let checked = ap checking is ∙ file_checked records c (accepted records (file_begins records c)) in
    let done : r ≡ Ok (length records) = answer ∙ (ap (placed places) checked ∙ rw (le-leb (length records) places enough) refl) in
    record {
      done = done;
      added = (subst (Written t put places put' places') done w).0 ∙ ap (λ l. put ++ l) (ap (λ x. records_of (statement_records x)) is ∙ file_again records c);
    }

-- two correct files are kept in equal rows exactly when they are equal
pub kept_apart : (rs ss : List (List ℕ)) (c : CorrectFile rs) (d : CorrectFile ss) → (kept_rows c.accounts ≡ kept_rows d.accounts) ↔ (rs ≡ ss)
kept_apart rs ss c d =
    (λ h. sym (file_again rs c) ∙ (ap (λ t. records_of (statement_records t)) h ∙ file_again ss d), λ h. sym (file_entered rs c) ∙ (ap (entered_all at_start no_rows) h ∙ file_entered ss d))

-- an answer, and the records left, that are those of a read
pub read_as_whole : (room : Room) (records : List (List ℕ)) (e : Ending) → RowForEach room records → (r : Result Counts ReadRefusal) (left : List (List ℕ)) → r ≡ (read_of room records e).answer → left ≡ (read_of room records e).left → ReadsWhole records e r left
read_as_whole room records e each r left answer rest =
    subst (λ (x : Result Counts ReadRefusal). ReadsWhole records e x left) (sym answer) (subst (ReadsWhole records e (read_of room records e).answer) (sym rest) (reads_whole room records e each))
