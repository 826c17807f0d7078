-- The records that tell given values: what stands in their columns, which are counted from 1. Assumes nothing.
use Rattle.std.specs.Prelude.{◌≡◌, ℕ, Bool, true, false, List, is_some, Some, None, codes, Option}
use Rattle.std.specs.List.{AllByRecursion}
use Rattle.charset.specs.Characters.{is_character}
use Rattle.fields.specs.Blank.{blank}
use Rattle.fields.specs.Decimal.{all_digits}
use Rattle.fields.specs.declared.keys.Key.{Key}
use Rattle.fields.specs.declared.modalities.Modality.{Modality}
use Rattle.fields.specs.declared.modalities.Modality.TheVariants.{First, Second, Third}
use Rattle.records.specs.Checks.{columns}
use Rattle.records.specs.Rules.{nines}
use Rattle.records.specs.Values.{number_at, date_at, key_at, account_in, movement_in, equivalent_in, account_end_in}
use Rattle.values.specs.declared.parts.AccountEnd.{AccountEnd}
use Rattle.values.specs.declared.parts.AccountHead.{AccountHead}
use Rattle.values.specs.declared.parts.Equivalent.{Equivalent}
use Rattle.values.specs.declared.parts.Movement.{Movement}
use Rattle.composing.specs.Layouts.{digit_or_zero}
use Rattle.composing.specs.declared.account_ends.AccountClose.{AccountClose}

abbrev pub Characters : List ℕ → Type 0
Characters cs = AllByRecursion (λ b. is_character b ≡ true) cs

-- a number that may be absent stands in digits, or its columns are blank
abbrev pub Stands : ℕ → ℕ → Option ℕ → List ℕ → Type 0
Stands a b (Some n) r = (all_digits (columns a b r) ≡ true) × (number_at a b r ≡ n)
Stands a b None r = blank (columns a b r) ≡ true

-- which numbers of a movement a modality tells
abbrev pub tells_origin : Modality → Bool
tells_origin First = false
tells_origin Second = true
tells_origin Third = true

abbrev pub tells_reference : Modality → Bool
tells_reference First = false
tells_reference Second = false
tells_reference Third = true

-- 11
pub record AccountRecord (h : AccountHead) (text r : List ℕ) : Type 0 where
  pub code : columns 1 2 r ≡ codes "11"
  pub digits : all_digits (columns 1 51 r) ≡ true
  pub head : account_in r ≡ h
  pub name : columns 52 77 r ≡ text
  pub free : blank (columns 78 80 r) ≡ true
  pub characters : Characters text → Characters r

-- 22: every value stands in its columns, so that the record reads as the movement in a modality that tells just those present
pub record MovementRecord (m : Movement) (text r : List ℕ) : Type 0 where
  pub code : columns 1 2 r ≡ codes "22"
  pub free : blank (columns 3 6 r) ≡ true
  pub origin : Stands 7 10 m.origin r
  pub digits : all_digits (columns 11 52 r) ≡ true
  pub operation : date_at 11 16 r ≡ m.operation
  pub value : date_at 17 22 r ≡ m.value
  pub common : number_at 23 24 r ≡ m.common
  pub own : number_at 25 27 r ≡ m.own
  pub key : key_at 28 r ≡ m.key
  pub amount : number_at 29 42 r ≡ m.amount
  pub document : number_at 43 52 r ≡ m.document
  pub reference : Stands 53 64 m.reference r
  pub reference_2 : columns 65 80 r ≡ text
  pub movement : (modality : Modality) → is_some m.origin ≡ tells_origin modality → is_some m.reference ≡ tells_reference modality → movement_in modality r ≡ m
  pub characters : Characters text → Characters r

-- 23
pub record TextRecord (n : ℕ) (one two r : List ℕ) : Type 0 where
  pub code : columns 1 2 r ≡ codes "23"
  pub digits : all_digits (columns 1 4 r) ≡ true
  pub sequence : number_at 3 4 r ≡ n
  pub first : columns 5 42 r ≡ one
  pub second : columns 43 80 r ≡ two
  pub characters : Characters one → Characters two → Characters r

-- 24
pub record EquivalentRecord (e : Equivalent) (r : List ℕ) : Type 0 where
  pub code : columns 1 2 r ≡ codes "24"
  pub sequence : columns 3 4 r ≡ codes "01"
  pub digits : all_digits (columns 1 21 r) ≡ true
  pub equivalent : equivalent_in r ≡ e
  pub free : blank (columns 22 80 r) ≡ true
  pub characters : Characters r

-- the end that values with a final key tell
abbrev pub ended : AccountClose → Key → AccountEnd
ended e k = record {
  number = e.number;
  debits = e.debits;
  credits = e.credits;
  last = record { key = k; amount = e.amount };
  currency = e.currency;
}

-- 33: where the final key is absent its digit is 0, and all else stands as it would with a key
pub record AccountEndRecord (e : AccountClose) (r : List ℕ) : Type 0 where
  pub code : columns 1 2 r ≡ codes "33"
  pub digits : all_digits (columns 1 76 r) ≡ true
  pub key : number_at 59 59 r ≡ digit_or_zero e.key
  pub end : account_end_in r ≡ ended e (key_at 59 r)
  pub keyed : (k : Key) → e.key ≡ Some k → account_end_in r ≡ ended e k
  pub free : blank (columns 77 80 r) ≡ true
  pub characters : Characters r

-- 88
pub record FileEndRecord (n : ℕ) (r : List ℕ) : Type 0 where
  pub code : columns 1 2 r ≡ codes "88"
  pub fixed : columns 3 20 r ≡ nines
  pub digits : all_digits (columns 21 26 r) ≡ true
  pub before : number_at 21 26 r ≡ n
  pub free : blank (columns 27 80 r) ≡ true
  pub characters : Characters r
