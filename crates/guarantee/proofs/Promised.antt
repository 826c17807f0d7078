-- The main promises from those of each call. Assumes nothing.
use Rattle.std.proofs.Common.{◌≡◌, ℕ, ◌≤◌, List, length, Option, Result, sym, ◌∙◌}
use Rattle.reading.specs.declared.refusals.Refusal.{Refusal}
use Rattle.media.specs.Endings.{Ending}
use Rattle.rows.specs.Kept.{Rows}
use Rattle.rows.specs.Tables.{Room}
use Rattle.archiving.specs.declared.reads.Counts.{Counts}
use Rattle.archiving.specs.declared.refusals.ReadRefusal.{ReadRefusal}
use Rattle.guarantee.specs.Files.{CorrectFile}
use Rattle.guarantee.specs.KeptIn.{kept_rows}
use Rattle.guarantee.specs.Promises.{RowForEach, ReadsWhole, WritesBack}
use Rattle.guarantee.specs.Runs.{Ran}
use Rattle.guarantee.specs.Whole.{Promises}
use Rattle.guarantee.specs.declared.audits.Audited.{Audited}
use Rattle.guarantee.specs.declared.runs.Call.{Call}
use Rattle.guarantee.proofs.Wholes.{kept_apart}

-- what a read with a row for each record says
pub record Read (room : Room) (records : List (List ℕ)) (e : Ending) (r : Result Counts ReadRefusal) (left : List (List ℕ)) (rows : Rows) : Type 0 where
  pub whole : RowForEach room records → ReadsWhole records e r left
  pub kept : RowForEach room records → (c : CorrectFile records) → rows ≡ kept_rows c.accounts

pub says : (room : Room) (records : List (List ℕ)) (e : Ending) (r : Result Counts ReadRefusal) (left : List (List ℕ)) (rows : Rows) → (RowForEach room records → ReadsWhole records e r left) → (RowForEach room records → (c : CorrectFile records) → rows ≡ kept_rows c.accounts) → Read room records e r left rows
says room records e r left rows whole kept = record { whole = whole; kept = kept }

module _ (x : Audited) {room₁ room₂ : Room} {records₁ records₂ : List (List ℕ)} {e₁ e₂ : Ending} {left₁ left₂ : List (List ℕ)} {rows₁ rows₂ : Rows} (one : Read room₁ records₁ e₁ x.first left₁ rows₁) (two : Read room₂ records₂ e₂ x.second left₂ rows₂) where
  pub promised : (calls : List Call) (room₀ : ℕ) (answers : List (Option Refusal)) → Ran calls room₀ answers x.ran → (lent : Rows) (put : List (List ℕ)) (places : ℕ) (put' : List (List ℕ)) → lent ≡ rows₁ → ((records : List (List ℕ)) → (c : CorrectFile records) → lent ≡ kept_rows c.accounts → length records ≤ places → WritesBack records put places x.written put') → Promises calls room₀ answers room₁ room₂ records₁ records₂ e₁ e₂ left₁ left₂ rows₁ rows₂ put places put' x
  promised calls room₀ answers ran lent put places put' same back = record {
    runs = ran;
    first = one.whole;
    second = two.whole;
    back = λ each ok enough. let c = ((one.whole each).succeeds.0 ok).0 in back records₁ c (same ∙ one.kept each c) enough;
    apart = λ each₁ each₂ ok₁ ok₂.
        let c = ((one.whole each₁).succeeds.0 ok₁).0 in
        let d = ((two.whole each₂).succeeds.0 ok₂).0 in
        (λ h. (kept_apart records₁ records₂ c d).0 (sym (one.kept each₁ c) ∙ (h ∙ two.kept each₂ d)), λ h. one.kept each₁ c ∙ ((kept_apart records₁ records₂ c d).1 h ∙ sym (two.kept each₂ d)));
  }
