-- A record that a reading takes, and the tables. Assumes nothing.
use Rattle.std.proofs.Common.{◌≡◌, ℕ, ◌+◌, List, length, Some, None, Ok, Err, Option, Result, sym, refl, ap, ◌∙◌, arith}
use Rattle.std.specs.Result.{MatchResult, IsErrAnd, OnOk, result_err}
use Rattle.std.proofs.lemmas.Result.{err_from_is_err_and}
use Rattle.values.specs.declared.parts.OpenAccount.{OpenAccount}
use Rattle.records.proofs.Judging.{columns_long}
use Rattle.reading.specs.Offers.{kind_in}
use Rattle.reading.specs.Progress.{Progress, refused}
use Rattle.reading.specs.Taken.{kind_told, Tells}
use Rattle.reading.specs.declared.entries.Entry.{Entry}
use Rattle.reading.specs.declared.entries.Entry.TheVariants as entry
use Rattle.reading.specs.declared.refusals.Refusal.{Refusal}
use Rattle.rows.specs.Kept.{Rows}
use Rattle.rows.specs.Tables.{Room, rows_in, Holds}
use Rattle.rows.specs.declared.archive.Tables.{Tables}
use Rattle.rows.specs.declared.tables.TableKind.{TableKind}
use Rattle.table.proofs.Filling.{standing}
use Rattle.archiving.specs.Entering.{entered_as, with_entry, lacking, Whole, granted}
use Rattle.archiving.specs.Reads.{of_kind, entered, crowded, unless_taken, stopping}
use Rattle.archiving.specs.declared.refusals.ReadRefusal.{ReadRefusal}
use Rattle.archiving.specs.declared.refusals.ReadRefusal.TheVariants.{Reading, NoRow}

-- what a reading lends has its full width
pub whole : (a : OpenAccount) (o : List ℕ) (e : Entry) → length o ≡ 80 → Tells a o e → Whole e
whole a o (entry.Account head name) long t = ap length t.1 ∙ columns_long 52 77 o long (omega arith)
whole a o (entry.Movement movement reference) long t = ap length t.1 ∙ columns_long 65 80 o long (omega arith)
whole a o (entry.Text sequence first second) long t = (ap length t.1 ∙ columns_long 5 42 o long (omega arith), ap length t.2 ∙ columns_long 43 80 o long (omega arith))
whole a o (entry.Equivalent equivalent) long t = tt
whole a o (entry.AccountEnd end) long t = tt
whole a o (entry.FileEnd records) long t = tt

-- the rows of an entry are those of its record
by_entry : (a : OpenAccount) (o : List ℕ) (e : Entry) (rows : Rows) → Tells a o e → with_entry e rows ≡ entered_as a.head.modality o rows (kind_told e)
by_entry a o (entry.Account head name) rows t = rw (t.0, t.1) refl
by_entry a o (entry.Movement movement reference) rows t = rw (t.0, t.1) refl
by_entry a o (entry.Text sequence first second) rows t = rw (t.1, t.2) refl
by_entry a o (entry.Equivalent equivalent) rows t = rw t refl
by_entry a o (entry.AccountEnd end) rows t = rw t refl
by_entry a o (entry.FileEnd records) rows t = refl

module _ (p : Progress) (o : List ℕ) (e : Entry) (rows : Rows) (is : kind_in o ≡ Some (kind_told e)) where
  pub entered_by : Tells p.account o e → with_entry e rows ≡ entered p o rows
  unfolding entered
  entered_by t = by_entry p.account o e rows t ∙ sym (ap (of_kind rows (entered_as p.account.head.modality o rows)) is)

  crowded_by : (room : Room) → lacking room rows (kind_told e) ≡ crowded room rows o
  unfolding crowded
  crowded_by room = sym (ap (of_kind None (lacking room rows)) is)

  -- taken by the reading, the table is asked
  pub stopped_by : (room : Room) → None ≡ refused p o → (k : Option TableKind) → k ≡ lacking room rows (kind_told e) → unless_taken (p.taken + 1) None k ≡ stopping room p rows o
  unfolding stopping
  stopped_by room taken k h = ap (unless_taken (p.taken + 1) None) (h ∙ crowded_by room) ∙ ap (λ r. unless_taken (p.taken + 1) r (crowded room rows o)) taken

-- refused by the reading
pub refused_by : (room : Room) (p : Progress) (rows : Rows) (o : List ℕ) (r : Refusal) → Some r ≡ refused p o → Some (Reading r) ≡ stopping room p rows o
unfolding stopping
refused_by room p rows o r h = ap (λ x. unless_taken (p.taken + 1) x (crowded room rows o)) h

-- tables that nobody touched
pub still : (t : Tables) → Holds t t (rows_in t)
still t = record {
  accounts = standing t.accounts.rows.now t.accounts.filled t.accounts.fits;
  movements = standing t.movements.rows.now t.movements.filled t.movements.fits;
  texts = standing t.texts.rows.now t.texts.filled t.texts.fits;
  accounts_lent = refl;
  movements_lent = refl;
  texts_lent = refl;
}

-- an answer whose refusal is told in another form
abbrev pub told_as : {A E : Type 0} → (E → ReadRefusal) → Result A E → Result A ReadRefusal
told_as f (Ok x) = Ok x
told_as f (Err e) = Err (f e)

module _ {A E : Type 0} (f : E → ReadRefusal) where
  pub told_by : (Told : E → ReadRefusal → Type 0) → ((e : E) (x : ReadRefusal) → Told e x → x ≡ f e) → (answer : Result A E) (told : Result A ReadRefusal) → MatchResult answer (λ a. told ≡ Ok a) (λ e. IsErrAnd told (Told e)) → told ≡ told_as f answer
  told_by Told is (Ok a) told h = h
  told_by Told is (Err e) told h = let x = err_from_is_err_and told h in x.1 ∙ ap Err (is e x.0 x.2)

  pub granted_told : (answer : Result A E) (one other : Rows) → granted (told_as f answer) one other ≡ granted answer one other
  granted_told (Ok a) one other = refl
  granted_told (Err e) one other = refl

  pub told_ok : (answer : Result A E) (a : A) → told_as f answer ≡ Ok a → answer ≡ Ok a
  told_ok (Ok b) a h = cc
  told_ok (Err e) a h = cc

pub stop_told : (n : ℕ) (entered : Result (Unit {0}) TableKind) → result_err (told_as (λ table. NoRow table n) entered) ≡ unless_taken n None (result_err entered)
stop_told n (Ok u) = refl
stop_told n (Err table) = refl

pub on_any : {T E P : Type 0} (answer : Result T E) → P → OnOk answer P
on_any (Ok x) p = p
on_any (Err x) p = tt
