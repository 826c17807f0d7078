-- Every reading can be finished: by the end of its account and of the file. Assumes nothing.
use Rattle.std.proofs.Common.{ℕ, ◌+◌, ◌≤◌, List, [], ◌∷◌, refl, arith}
use Rattle.values.specs.Balances.{begun}
use Rattle.values.specs.declared.parts.OpenAccount.{OpenAccount}
use Rattle.records.specs.Values.{account_in}
use Rattle.reading.specs.Kinds.{last_number}
use Rattle.reading.specs.Limits.{texts_of}
use Rattle.reading.specs.Offers.{checks}
use Rattle.reading.specs.Taken.{account_after}
use Rattle.reading.specs.declared.kinds.Kind.{Kind}
use Rattle.reading.specs.declared.kinds.Kind.TheVariants as kind
use Rattle.reading.specs.declared.phases.Phase.{Phase}
use Rattle.reading.specs.declared.phases.Phase.TheVariants.{Start, Between, Opened, Texts, Converted, Ended}
use Rattle.edition.proofs.Closing.{Closable, closable_after, opened_closable}
use Rattle.edition.proofs.Completing.{account_end_completes, file_end_completes, some_account, some_account_right}
use Rattle.edition.proofs.Right.{Right}
use Rattle.guarantee.proofs.Coming.{account_comes, file_end_comes, account_end_comes, in_phase}
use Rattle.guarantee.proofs.ToCome.{Accounts, InAccount, Coming}
use Rattle.guarantee.proofs.Ways.{Inside, Way, first_account, one_more_account, file_end, movement, text, equivalent, account_end}

-- the fewest records that a file has after a phase
abbrev pub owed : Phase → ℕ
owed Start = 3
owed Between = 1
owed Opened = 2
owed (Texts k) = 2
owed Converted = 2
owed Ended = 0

-- what a reading keeps, so that there is room for those, and an account that is open can be closed
pub record Finishable (phase : Phase) (n : ℕ) (a : OpenAccount) : Type 0 where
  pub few : texts_of phase ≤ 5
  pub room : n + owed phase ≤ 1000000
  pub closable : Inside phase → Closable a

pub still_finishable : (phase : Phase) (k : Kind) (q : Phase) → Way phase k q → (n : ℕ) (a : OpenAccount) (o : List ℕ) → n + 1 ≤ last_number k → Right k (checks k (texts_of phase) n a) o → Finishable phase n a → Finishable q (n + 1) (account_after a o k)
still_finishable _ _ _ first_account n a o room h f = record { few = omega arith; room = omega arith; closable = λ i. opened_closable o h.long h.passed }
still_finishable _ _ _ one_more_account n a o room h f = record { few = omega arith; room = omega arith; closable = λ i. opened_closable o h.long h.passed }
still_finishable _ _ _ file_end n a o room h f = record { few = omega arith; room = omega arith; closable = λ i. absurd i }
still_finishable _ _ _ (movement i) n a o room h f = record { few = omega arith; room = omega arith; closable = λ j. closable_after kind.Movement 0 n a o h.long h.passed (f.closable i) }
still_finishable _ _ _ (text less) n a o room h f = record { few = omega arith; room = omega arith; closable = λ i. f.closable tt }
still_finishable _ _ _ equivalent n a o room h f = record { few = omega arith; room = omega arith; closable = λ i. f.closable tt }
still_finishable _ _ _ (account_end i) n a o room h f = record { few = omega arith; room = omega arith; closable = λ i. absurd i }

-- some rest that may come
file_finished : (n : ℕ) → n ≤ 999999 → (rest : List (List ℕ)) × Accounts n rest
file_finished n h = let e = file_end_completes n h in (e.0 ∷ [], file_end_comes n e.0 h e.2)

account_finished : (n : ℕ) (a : OpenAccount) → Closable a → n ≤ 999998 → (rest : List (List ℕ)) × InAccount a n rest
account_finished n a c h =
    let e = account_end_completes a c in
    let more = file_finished (n + 1) (omega arith) in
    (e.0 ∷ more.0, account_end_comes n a e.0 more.0 e.2 more.1)

inside_finished : (phase : Phase) (n : ℕ) (a : OpenAccount) → Inside phase → texts_of phase ≤ 5 → Closable a → n ≤ 999998 → (rest : List (List ℕ)) × Coming phase n a rest
inside_finished phase n a i few c h = let t = account_finished n a c h in (t.0, in_phase phase n a t.0 i few t.1)

pub finished : (phase : Phase) (n : ℕ) (a : OpenAccount) → Finishable phase n a → (rest : List (List ℕ)) × Coming phase n a rest
finished Start n a f =
    let h = some_account_right in
    let t = account_finished (n + 1) (begun (account_in some_account)) (opened_closable some_account h.long h.passed) (omega (arith, f.room)) in
    (some_account ∷ t.0, account_comes n a some_account t.0 h t.1)
finished Between n a f = file_finished n (omega (arith, f.room))
finished Opened n a f = inside_finished Opened n a tt f.few (f.closable tt) (omega (arith, f.room))
finished (Texts k) n a f = inside_finished (Texts k) n a tt f.few (f.closable tt) (omega (arith, f.room))
finished Converted n a f = inside_finished Converted n a tt f.few (f.closable tt) (omega (arith, f.room))
finished Ended n a f = ([], refl)
