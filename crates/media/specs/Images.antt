-- What an output over bytes means: the records put are what the bytes written hold. Assumes nothing.
use Rattle.std.specs.Prelude.{◌≡◌, ℕ, ◌+◌, ◌-◌, ◌/◌, true, false, List, [], ◌++◌, length, take, drop, Some, None, Ok, Err, Option, Result}
use Rattle.charset.specs.Tables.{encoded}
use Rattle.charset.specs.declared.code_table.CodeTable.{CodeTable}
use Rattle.media.specs.Bytes.{contents}
use Rattle.media.specs.Translation.{translated}
use Rattle.media.specs.Meaning.{is_record}
use Rattle.media.specs.Frames.{line_end, stride}
use Rattle.media.specs.declared.framing.Framing.{Framing}
use Rattle.media.specs.declared.images.Image.{Image}
use Rattle.media.specs.declared.outputs.PutRefusal.{PutRefusal}

abbrev pub records_put : Image → List (List ℕ)
records_put i = (contents i.framing i.table (take i.position i.bytes.now) 0).records

-- the whole records that fit into the bytes not yet written
abbrev pub places_left : Image → ℕ
places_left i = (length i.bytes.now - i.position) / stride i.framing

-- a record with its line end
abbrev pub framed : Framing → CodeTable → List ℕ → List ℕ
framed f t r = translated (encoded t) r ++ line_end f

-- bytes in which a part is written at p, and no other byte changes
abbrev pub bytes_after : List ℕ → ℕ → List ℕ → List ℕ
bytes_after before p part = take p before ++ (part ++ drop (p + length part) before)

-- a part is written, and nothing else changes
pub record Behind (i i' : Image) (p : ℕ) (part : List ℕ) : Type 0 where
  pub part_written : i'.bytes.now ≡ bytes_after i.bytes.now p part
  pub position_same : i'.position ≡ i.position
  pub framing_same : i'.framing ≡ i.framing
  pub table_same : i'.table ≡ i.table

-- an image just made: nothing is written yet
pub record Made (i : Image) (bytes : List ℕ) (f : Framing) (t : CodeTable) : Type 0 where
  pub bytes_as_lent : i.bytes.now ≡ bytes
  pub nothing_written : i.position ≡ 0
  pub framing_asked : i.framing ≡ f
  pub table_asked : i.table ≡ t
  pub nothing_put : records_put i ≡ []

pub record Written (i i' : Image) (r : List ℕ) : Type 0 where
  pub bytes_written : i'.bytes.now ≡ bytes_after i.bytes.now i.position (framed i.framing i.table r)
  pub position_moved : i'.position ≡ i.position + stride i.framing
  pub framing_kept : i'.framing ≡ i.framing
  pub table_kept : i'.table ≡ i.table

abbrev pub Writes : Image → Image → List ℕ → Result (Unit {0}) PutRefusal → Type 0
Writes i i' r (Ok _) = Written i i' r
Writes i i' r (Err _) = i' ≡ i

abbrev pub Encodes : CodeTable → List ℕ → Option (List ℕ) → Type 0
Encodes t r None = is_record r ≡ false
Encodes t r (Some bs) = (is_record r ≡ true) × (bs ≡ translated (encoded t) r)
