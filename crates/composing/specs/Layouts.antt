-- The parts of the six records, from the left. Assumes nothing.
use Rattle.std.specs.Prelude.{ℕ, List, [], ◌∷◌, Some, None, Option}
use Rattle.fields.specs.Keys.{key_digit}
use Rattle.fields.specs.Modalities.{modality_digit}
use Rattle.fields.specs.declared.keys.Key.{Key}
use Rattle.records.specs.Rules.{nines}
use Rattle.values.specs.declared.parts.AccountHead.{AccountHead}
use Rattle.values.specs.declared.parts.Equivalent.{Equivalent}
use Rattle.values.specs.declared.parts.Movement.{Movement}
use Rattle.composing.specs.Parts.{Part, spelled, spaces, plain, spelled_or_spaces}
use Rattle.composing.specs.declared.account_ends.AccountClose.{AccountClose}

-- 11, the account: entity, office, account, period, initial balance, currency, modality, name
unfoldable pub account_layout : AccountHead → List ℕ → List Part
account_layout h name =
    spelled 2 11
    ∷ spelled 4 h.number.entity
    ∷ spelled 4 h.number.office
    ∷ spelled 10 h.number.number
    ∷ spelled 6 h.period.first.digits
    ∷ spelled 6 h.period.last.digits
    ∷ spelled 1 (key_digit h.initial.key)
    ∷ spelled 14 h.initial.amount
    ∷ spelled 3 h.currency
    ∷ spelled 1 (modality_digit h.modality)
    ∷ plain name
    ∷ spaces 3
    ∷ []

-- 22, a movement: origin office, dates, concepts, amount, document, references
unfoldable pub movement_layout : Movement → List ℕ → List Part
movement_layout m second =
    spelled 2 22
    ∷ spaces 4
    ∷ spelled_or_spaces 4 m.origin
    ∷ spelled 6 m.operation.digits
    ∷ spelled 6 m.value.digits
    ∷ spelled 2 m.common
    ∷ spelled 3 m.own
    ∷ spelled 1 (key_digit m.key)
    ∷ spelled 14 m.amount
    ∷ spelled 10 m.document
    ∷ spelled_or_spaces 12 m.reference
    ∷ plain second
    ∷ []

-- 23, a text in two fields
unfoldable pub text_layout : ℕ → List ℕ → List ℕ → List Part
text_layout sequence first second = spelled 2 23 ∷ spelled 2 sequence ∷ plain first ∷ plain second ∷ []

-- 24, the equivalent: it is the only one of its movement
unfoldable pub equivalent_layout : Equivalent → List Part
equivalent_layout e = spelled 2 24 ∷ spelled 2 1 ∷ spelled 3 e.currency ∷ spelled 14 e.amount ∷ spaces 59 ∷ []

-- the digit of a key that may be absent
abbrev pub digit_or_zero : Option Key → ℕ
digit_or_zero (Some k) = key_digit k
digit_or_zero None = 0

-- 33, the account end: account, debits, credits, final balance, currency
unfoldable pub account_end_layout : AccountClose → List Part
account_end_layout e =
    spelled 2 33
    ∷ spelled 4 e.number.entity
    ∷ spelled 4 e.number.office
    ∷ spelled 10 e.number.number
    ∷ spelled 5 e.debits.count
    ∷ spelled 14 e.debits.total
    ∷ spelled 5 e.credits.count
    ∷ spelled 14 e.credits.total
    ∷ spelled 1 (digit_or_zero e.key)
    ∷ spelled 14 e.amount
    ∷ spelled 3 e.currency
    ∷ spaces 4
    ∷ []

-- 88, the file end: eighteen nines, and the number of records before it
unfoldable pub file_end_layout : ℕ → List Part
file_end_layout before = spelled 2 88 ∷ plain nines ∷ spelled 6 before ∷ spaces 54 ∷ []
