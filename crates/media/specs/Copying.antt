-- What copying a carrier to an output gives. Assumes nothing.
use Rattle.std.specs.Prelude.{◌≡◌, ℕ, ◌+◌, ◌<◌, List, [], ◌++◌, length, take, drop, Ok, Err, Result}
use Rattle.media.specs.Endings.{Ending}
use Rattle.media.specs.declared.copying.Copied.{Copied}
use Rattle.media.specs.declared.outputs.PutRefusal.{PutRefusal}
use Rattle.media.specs.declared.outputs.PutRefusal.TheVariants.{NotARecord, NoPlace}

-- a carrier with these records and this ending, an output with these records put and so many places: after an answer
-- the records left, those put, and the places left. What is drawn from a carrier is always a record.
abbrev pub Copies : List (List ℕ) → Ending → List (List ℕ) → ℕ → List (List ℕ) → List (List ℕ) → ℕ → Result Copied PutRefusal → Type 0
Copies rs e put places left put' places' (Ok c) =
    (c ≡ record { records = length rs; ending = e }) × (left ≡ []) × (put' ≡ put ++ rs) × (places' + length rs ≡ places)
Copies rs e put places left put' places' (Err NoPlace) =
    (places < length rs) × (left ≡ drop (places + 1) rs) × (put' ≡ put ++ take places rs) × (places' ≡ 0)
Copies rs e put places left put' places' (Err NotARecord) = ⊥
