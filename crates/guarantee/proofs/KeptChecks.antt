-- What was kept of a correct file whose records are taken passes the check of tables. Assumes nothing.
use Rattle.std.proofs.Common.{◌≡◌, ℕ, List, [], ◌∷◌, length, None, Ok, refl, ap, ◌∙◌}
use Rattle.std.specs.Option.{option_map}
use Rattle.std.proofs.lemmas.Bool.{eq-eqb}
use Rattle.composing.specs.Parts.{Part}
use Rattle.reading.specs.Progress.{Progress, at_start, refused, after}
use Rattle.rows.specs.Kept.{Rows, movements_of, texts_of}
use Rattle.recalling.specs.Checking.{made_or_none, trying, unless, walked, counted_unless, checking}
use Rattle.recalling.specs.Statements.{statement_records}
use Rattle.recalling.specs.declared.refusals.TableRefusal.TheVariants.{Refused}
use Rattle.guarantee.specs.Files.{CorrectFile}
use Rattle.guarantee.proofs.KeptCounts.{movements_kept, texts_kept}
use Rattle.guarantee.proofs.KeptRecords.{Spelled, file_spelled, file_length}
use Rattle.guarantee.specs.KeptIn.{kept_rows}

-- a reading that has come so far takes these records, one after the other
abbrev pub Accepted : Progress → List (List ℕ) → Type 0
Accepted p [] = Unit {0}
Accepted p (o ∷ rest) = (refused p o ≡ None) × Accepted (after p o) rest

-- layouts of records that are taken
pub walked_through : (p : Progress) (ls : List (List Part)) (rs : List (List ℕ)) → Spelled ls rs → Accepted p rs → walked p ls ≡ None
walked_through p [] rs h taken = refl
walked_through p (l ∷ ls) [] h taken = absurd h
walked_through p (l ∷ ls) (r ∷ rs) h taken =
    ap (λ x. unless (trying p x) (walked (after p (made_or_none x)) ls)) h.0
    ∙ (ap (λ x. unless (option_map Refused x) (walked (after p r) ls)) taken.0 ∙ walked_through (after p r) ls rs h.1 taken.1)

-- tables whose counts match their rows
counted : (t : Rows) → movements_of t.accounts ≡ length t.movements → texts_of t.movements ≡ length t.texts → checking t ≡ counted_unless (length (statement_records t)) (walked at_start (statement_records t))
counted t movements texts = rw (eq-eqb _ _ movements, eq-eqb _ _ texts) refl

module _ (rs : List (List ℕ)) (f : CorrectFile rs) (taken : Accepted at_start rs) where
  pub file_walked : walked at_start (statement_records (kept_rows f.accounts)) ≡ None
  file_walked = walked_through at_start (statement_records (kept_rows f.accounts)) rs (file_spelled rs f) taken

  pub file_checked : checking (kept_rows f.accounts) ≡ Ok (length rs)
  file_checked =
      let t = kept_rows f.accounts in
      counted t (movements_kept f.accounts) (texts_kept f.accounts) ∙ (ap (counted_unless (length (statement_records t))) file_walked ∙ ap Ok (file_length rs f))
