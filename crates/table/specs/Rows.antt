-- What becomes of a table's rows: `rows` are all, and so many of them are filled. Assumes nothing.
use Rattle.std.specs.Prelude.{◌≡◌, ℕ, ◌+◌, ◌<◌, ◌≤◌, Bool, true, false, List, [], ◌∷◌, length, take, drop, Some, None, Ok, Err, Option, Result, slice_index_or, slice_set}
use Rattle.table.specs.declared.tables.Full.{Full}

-- what the table holds
abbrev pub held : {A : Type 0} → List A → ℕ → List A
held rows filled = take filled rows

-- a row appended behind the filled ones: it is refused exactly where no row is free
abbrev pub Pushed : {A : Type 0} → List A → ℕ → A → List A → ℕ → Result (Unit {0}) Full → Type 0
Pushed rows filled row rows' filled' (Ok _) = (filled < length rows) × (rows' ≡ slice_set rows filled row) × (filled' ≡ filled + 1)
Pushed rows filled row rows' filled' (Err _) = (filled ≡ length rows) × (rows' ≡ rows) × (filled' ≡ filled)

-- a filled row set anew: no other row changes
abbrev pub WasSet : {A : Type 0} → List A → ℕ → ℕ → A → List A → Bool → Type 0
WasSet rows filled i row rows' true = (i < filled) × (rows' ≡ slice_set rows i row)
WasSet rows filled i row rows' false = (filled ≤ i) × (rows' ≡ rows)

-- the row at an index, where one is filled
abbrev pub ReadAt : {A : Type 0} → List A → ℕ → ℕ → Option A → Type 0
ReadAt rows filled i None = filled ≤ i
ReadAt {A} rows filled i (Some row) = (i < filled) × ((d : A) → slice_index_or rows i d ≡ row)

-- the last filled row, and its index
abbrev pub LastOf : {A : Type 0} → List A → ℕ → Option (ℕ × A) → Type 0
LastOf rows filled None = filled ≡ 0
LastOf {A} rows filled (Some last) = (last.0 + 1 ≡ filled) × ((d : A) → slice_index_or rows last.0 d ≡ last.1)

-- rows that were given hold `fill` now, and those behind it are as they were
pub record Fills {A : Type 0} (given rows : List A) (filled : ℕ) (fill : List A) : Type 0 where
  pub front : held rows filled ≡ fill
  pub behind : drop filled rows ≡ drop filled given
  pub many : filled ≡ length fill
  pub size : length rows ≡ length given

-- another last row in the place of the last
abbrev pub revised : {A : Type 0} → (A → A) → List A → List A
revised f [] = []
revised f (x ∷ []) = f x ∷ []
revised f (x ∷ (y ∷ rest)) = x ∷ revised f (y ∷ rest)
