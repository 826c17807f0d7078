-- A run of calls on a reading: what each may answer, said of the records taken so far and of the correct files.
-- Assumes nothing.
use Rattle.std.specs.Prelude.{◌≡◌, ℕ, ◌+◌, ◌<◌, ◌≤◌, ◌↔◌, List, [], ◌∷◌, ◌++◌, length, take, Some, None, Ok, Err, Option, Result}
use Rattle.table.specs.declared.tables.Full.{Full}
use Rattle.reading.specs.declared.refusals.Cause.TheVariants.{Unfinished}
use Rattle.reading.specs.declared.refusals.Refusal.{Refusal}
use Rattle.guarantee.specs.Files.{CorrectFile, Begins}
use Rattle.guarantee.specs.declared.runs.Call.{Call}
use Rattle.guarantee.specs.declared.runs.Call.TheVariants.{Offer, Close}

-- an answer grants the call, or is a refusal
abbrev pub Granted : Option Refusal → Type 0
Granted x = x ≡ None

abbrev pub Refused : Option Refusal → Type 0
Refused x = (refusal : Refusal) × (x ≡ Some refusal)

-- an offer: granted exactly where the records taken and then this one begin a correct file; a refusal tells the number
-- that the record would have
pub record OfferAnswered (taken : List (List ℕ)) (offered : List ℕ) (x : Option Refusal) : Type 0 where
  pub granted : Granted x ↔ Begins (taken ++ (offered ∷ []))
  pub refused : Refused x ↔ (Begins (taken ++ (offered ∷ [])) → ⊥)
  pub number : (refusal : Refusal) → x ≡ Some refusal → refusal.«record» ≡ length taken + 1

-- a close: granted exactly where the records taken are a correct file; a refusal tells that it is unfinished, and the
-- number that the next record would have
pub record CloseAnswered (taken : List (List ℕ)) (x : Option Refusal) : Type 0 where
  pub granted : Granted x ↔ CorrectFile taken
  pub refused : Refused x ↔ (CorrectFile taken → ⊥)
  pub unfinished : (refusal : Refusal) → x ≡ Some refusal → refusal ≡ record { cause = Unfinished; «record» = length taken + 1 }

abbrev pub Answered : List (List ℕ) → Call → Option Refusal → Type 0
Answered taken (Offer offered) x = OfferAnswered taken offered.now x
Answered taken Close x = CloseAnswered taken x

-- the records taken after a call: one more after an offer that is granted, and else the same
abbrev pub taken_with : List (List ℕ) → Call → Option Refusal → List (List ℕ)
taken_with taken (Offer offered) None = taken ++ (offered.now ∷ [])
taken_with taken (Offer offered) (Some refusal) = taken
taken_with taken Close x = taken

-- after these records, these calls are given these answers: one to each call, and before and after each the records
-- taken begin a correct file
abbrev pub Lawful : List (List ℕ) → List Call → List (Option Refusal) → Type 0
Lawful taken [] [] = Begins taken
Lawful taken [] (x ∷ answers) = ⊥
Lawful taken (call ∷ calls) [] = ⊥
Lawful taken (call ∷ calls) (x ∷ answers) = Begins taken × Answered taken call x × Lawful (taken_with taken call x) calls answers

-- a run with room for so many answers: all calls are answered, or as many as there is room for
abbrev pub Ran : List Call → ℕ → List (Option Refusal) → Result (Unit {0}) Full → Type 0
Ran calls room answers (Ok _) = (length calls ≤ room) × Lawful [] calls answers
Ran calls room answers (Err _) = (room < length calls) × Lawful [] (take room calls) answers
