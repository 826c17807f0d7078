-- What is answered to an offer: the questions in their order. Assumes nothing.
use Rattle.std.specs.Prelude.{ℕ, suc, ◌+◌, cond, List, [], ◌∷◌, length, Some, None, Option, ◌==◌, nat_le, slice_index}
use Rattle.charset.specs.Characters.{is_character}
use Rattle.records.specs.Checks.{Check, judged}
use Rattle.records.specs.Rules.{account_checks, movement_checks, text_checks, equivalent_checks, account_end_checks, file_end_checks}
use Rattle.records.specs.declared.refusals.FieldRefusal.{FieldRefusal}
use Rattle.values.specs.declared.parts.OpenAccount.{OpenAccount}
use Rattle.reading.specs.Kinds.{kind_of, last_number}
use Rattle.reading.specs.Limits.{texts_of}
use Rattle.reading.specs.Phases.{next}
use Rattle.reading.specs.declared.kinds.Kind.{Kind}
use Rattle.reading.specs.declared.kinds.Kind.TheVariants.{Account, Movement, Text, Equivalent, AccountEnd, FileEnd}
use Rattle.reading.specs.declared.phases.Phase.{Phase}
use Rattle.reading.specs.declared.refusals.Cause.{Cause}
use Rattle.reading.specs.declared.refusals.Cause.TheVariants.{Length, Character, Code, Order, RecordLimit, Field}

-- the index of the first byte that is no character, counted from i
abbrev pub first_bad : List ℕ → ℕ → Option ℕ
first_bad [] i = None
first_bad (b ∷ bs) i = cond (is_character b) (first_bad bs (suc i)) (Some i)

-- the kind that the first two characters name
abbrev pub kind_in : List ℕ → Option Kind
kind_in o = kind_of (slice_index o 0) (slice_index o 1)

-- the checks of a record, by its kind, where so many texts and records came and this account is open
abbrev pub checks : Kind → ℕ → ℕ → OpenAccount → List Check
checks Account texts taken a = account_checks
checks Movement texts taken a = movement_checks a
checks Text texts taken a = text_checks texts
checks Equivalent texts taken a = equivalent_checks a.head
checks AccountEnd texts taken a = account_end_checks a
checks FileEnd texts taken a = file_end_checks taken

abbrev pub field_cause : Option FieldRefusal → Option Cause
field_cause None = None
field_cause (Some refusal) = Some (Field refusal)

-- of a kind that may follow, the record number is asked and then the fields
abbrev pub placed_cause : Phase → ℕ → OpenAccount → List ℕ → Kind → Option Phase → Option Cause
placed_cause phase taken a o kind None = Some Order
placed_cause phase taken a o kind (Some after) =
    cond (nat_le (taken + 1) (last_number kind)) (field_cause (judged (checks kind (texts_of phase) taken a) o)) (Some RecordLimit)

abbrev pub kind_cause : Phase → ℕ → OpenAccount → List ℕ → Option Kind → Option Cause
kind_cause phase taken a o None = Some Code
kind_cause phase taken a o (Some kind) = placed_cause phase taken a o kind (next phase kind)

abbrev pub character_cause : Phase → ℕ → OpenAccount → List ℕ → Option ℕ → Option Cause
character_cause phase taken a o None = kind_cause phase taken a o (kind_in o)
character_cause phase taken a o (Some i) = Some (Character (i + 1))

-- why an offer is refused, if it is
abbrev pub cause_of : Phase → ℕ → OpenAccount → List ℕ → Option Cause
cause_of phase taken a o = cond (length o == 80) (character_cause phase taken a o (first_bad o 0)) (Some Length)
