-- What writing tables to an output gives. Assumes nothing.
use Rattle.std.specs.Prelude.{◌≡◌, ℕ, ◌+◌, cond, List, [], ◌∷◌, ◌++◌, Ok, Err, Result, nat_le}
use Rattle.composing.specs.Parts.{Part}
use Rattle.rows.specs.Kept.{Rows}
use Rattle.recalling.specs.Checking.{record_of, checking}
use Rattle.recalling.specs.Statements.{statement_records}
use Rattle.recalling.specs.declared.refusals.TableRefusal.{TableRefusal}
use Rattle.recalling.specs.declared.refusals.WriteRefusal.{WriteRefusal}
use Rattle.recalling.specs.declared.refusals.WriteRefusal.TheVariants.{Tables, NoPlaces}

-- the records of layouts whose numbers fit
abbrev pub records_of : List (List Part) → List (List ℕ)
records_of [] = []
records_of (layout ∷ rest) = record_of layout ∷ records_of rest

-- the tables are checked, and then the places are asked
abbrev pub placed : ℕ → Result ℕ TableRefusal → Result ℕ WriteRefusal
placed places (Err x) = Err (Tables x)
placed places (Ok n) = cond (nat_le n places) (Ok n) (Err NoPlaces)

abbrev pub writing : Rows → ℕ → Result ℕ WriteRefusal
writing t places = placed places (checking t)

-- the records put and the places left after an answer
abbrev pub Written : Rows → List (List ℕ) → ℕ → List (List ℕ) → ℕ → Result ℕ WriteRefusal → Type 0
Written t put places put' places' (Ok n) = (put' ≡ put ++ records_of (statement_records t)) × (places' + n ≡ places)
Written t put places put' places' (Err x) = (put' ≡ put) × (places' ≡ places)
