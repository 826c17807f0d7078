-- The values that stand in a record's columns. Assumes nothing.
use Rattle.std.specs.Prelude.{ℕ, cond, List, Some, None, Option, ◌==◌}
use Rattle.fields.specs.Decimal.{value}
use Rattle.fields.specs.declared.dates.Date.{Date}
use Rattle.fields.specs.declared.keys.Key.{Key}
use Rattle.fields.specs.declared.keys.Key.TheVariants.{Debit, Credit}
use Rattle.fields.specs.declared.modalities.Modality.{Modality}
use Rattle.fields.specs.declared.modalities.Modality.TheVariants.{First, Second, Third}
use Rattle.records.specs.Checks.{columns}
use Rattle.values.specs.declared.parts.AccountEnd.{AccountEnd}
use Rattle.values.specs.declared.parts.AccountHead.{AccountHead}
use Rattle.values.specs.declared.parts.AccountNumber.{AccountNumber}
use Rattle.values.specs.declared.parts.Equivalent.{Equivalent}
use Rattle.values.specs.declared.parts.Movement.{Movement}
use Rattle.values.specs.declared.parts.Period.{Period}

abbrev pub number_at : ℕ → ℕ → List ℕ → ℕ
number_at a b r = value (columns a b r)

abbrev pub date_at : ℕ → ℕ → List ℕ → Date
date_at a b r = record { digits = number_at a b r }

abbrev pub key_at : ℕ → List ℕ → Key
key_at a r = cond (number_at a a r == 1) Debit Credit

abbrev pub modality_at : ℕ → List ℕ → Modality
modality_at a r = cond (number_at a a r == 1) First (cond (number_at a a r == 2) Second Third)

-- 11
abbrev pub account_number_in : List ℕ → AccountNumber
account_number_in r = record { entity = number_at 3 6 r; office = number_at 7 10 r; number = number_at 11 20 r }

abbrev pub period_in : List ℕ → Period
period_in r = record { first = date_at 21 26 r; last = date_at 27 32 r }

abbrev pub account_in : List ℕ → AccountHead
account_in r = record {
  number = account_number_in r;
  period = period_in r;
  initial = record { key = key_at 33 r; amount = number_at 34 47 r };
  currency = number_at 48 50 r;
  modality = modality_at 51 r;
}

-- 22
abbrev pub origin_in : Modality → List ℕ → Option ℕ
origin_in First r = None
origin_in Second r = Some (number_at 7 10 r)
origin_in Third r = Some (number_at 7 10 r)

abbrev pub reference_in : Modality → List ℕ → Option ℕ
reference_in First r = None
reference_in Second r = None
reference_in Third r = Some (number_at 53 64 r)

abbrev pub movement_in : Modality → List ℕ → Movement
movement_in m r = record {
  origin = origin_in m r;
  operation = date_at 11 16 r;
  value = date_at 17 22 r;
  common = number_at 23 24 r;
  own = number_at 25 27 r;
  key = key_at 28 r;
  amount = number_at 29 42 r;
  document = number_at 43 52 r;
  reference = reference_in m r;
}

-- 24
abbrev pub equivalent_in : List ℕ → Equivalent
equivalent_in r = record { currency = number_at 5 7 r; amount = number_at 8 21 r }

-- 33
abbrev pub account_end_in : List ℕ → AccountEnd
account_end_in r = record {
  number = account_number_in r;
  debits = record { count = number_at 21 25 r; total = number_at 26 39 r };
  credits = record { count = number_at 40 44 r; total = number_at 45 58 r };
  last = record { key = key_at 59 r; amount = number_at 60 73 r };
  currency = number_at 74 76 r;
}
