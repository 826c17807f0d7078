-- What a taken record gives, and what the reading holds after it. Assumes nothing.
use Rattle.std.specs.Prelude.{◌≡◌, ℕ, ◌+◌, true, List, Some, Ok, Err, Option, Result}
use Rattle.std.specs.Option.{option_map}
use Rattle.fields.specs.declared.keys.Key.TheVariants.{Debit}
use Rattle.fields.specs.declared.modalities.Modality.TheVariants.{First}
use Rattle.values.specs.Balances.{begun, turned, counts_in_limit, stays_in_limit}
use Rattle.records.specs.Checks.{columns}
use Rattle.records.specs.Values.{number_at, key_at, account_in, movement_in, equivalent_in, account_end_in}
use Rattle.values.specs.declared.parts.AccountHead.{AccountHead}
use Rattle.values.specs.declared.parts.OpenAccount.{OpenAccount}
use Rattle.reading.specs.Offers.{kind_in, cause_of}
use Rattle.reading.specs.Phases.{next}
use Rattle.reading.specs.declared.entries.Entry.{Entry}
use Rattle.reading.specs.declared.entries.Entry.TheVariants as entry
use Rattle.reading.specs.declared.kinds.Kind.{Kind}
use Rattle.reading.specs.declared.kinds.Kind.TheVariants.{Account, Movement, Text, Equivalent, AccountEnd, FileEnd}
use Rattle.reading.specs.declared.phases.Phase.{Phase}
use Rattle.reading.specs.declared.phases.Phase.TheVariants.{Start, Between, Opened, Texts, Converted, Ended}
use Rattle.reading.specs.declared.readings.Reading.{Reading}
use Rattle.reading.specs.declared.refusals.Cause.TheVariants.{Unfinished}
use Rattle.reading.specs.declared.refusals.Refusal.{Refusal}

-- the kind of an entry
abbrev pub kind_told : Entry → Kind
kind_told (entry.Account head name) = Account
kind_told (entry.Movement movement reference) = Movement
kind_told (entry.Text sequence one two) = Text
kind_told (entry.Equivalent equivalent) = Equivalent
kind_told (entry.AccountEnd end) = AccountEnd
kind_told (entry.FileEnd records) = FileEnd

-- its numbers, and the parts of the record that are lent
abbrev pub Tells : OpenAccount → List ℕ → Entry → Type 0
Tells a o (entry.Account head name) = (head ≡ account_in o) × (name.now ≡ columns 52 77 o)
Tells a o (entry.Movement movement reference) = (movement ≡ movement_in a.head.modality o) × (reference.now ≡ columns 65 80 o)
Tells a o (entry.Text sequence one two) = (sequence ≡ number_at 3 4 o) × (one.now ≡ columns 5 42 o) × (two.now ≡ columns 43 80 o)
Tells a o (entry.Equivalent equivalent) = equivalent ≡ equivalent_in o
Tells a o (entry.AccountEnd end) = end ≡ account_end_in o
Tells a o (entry.FileEnd records) = records ≡ number_at 21 26 o

-- the account that is open after a record of a kind
abbrev pub account_after : OpenAccount → List ℕ → Kind → OpenAccount
account_after a o Account = begun (account_in o)
account_after a o Movement = turned a (key_at 28 o) (number_at 29 42 o)
account_after a o Text = a
account_after a o Equivalent = a
account_after a o AccountEnd = a
account_after a o FileEnd = a

-- the reading after an answer: a record that is taken moves it on, and a refusal leaves it as it was
pub record Moved (s s' : Reading) (o : List ℕ) (kind : Kind) : Type 0 where
  pub kind_there : kind_in o ≡ Some kind
  pub phase_after : next s.phase kind ≡ Some s'.phase
  pub one_more : s'.taken ≡ s.taken + 1
  pub account_now : s'.account ≡ account_after s.account o kind

abbrev pub After : {E : Type 0} → Reading → Reading → List ℕ → Result Entry E → Type 0
After s s' o (Ok e) = Moved s s' o (kind_told e)
After s s' o (Err x) = s' ≡ s

-- what a movement needs so that the account can be turned
abbrev pub InLimits : OpenAccount → Entry → Type 0
InLimits a (entry.Account head name) = Unit {0}
InLimits a (entry.Movement m reference) = (counts_in_limit a m.key ≡ true) × (stays_in_limit a m.key m.amount ≡ true)
InLimits a (entry.Text sequence one two) = Unit {0}
InLimits a (entry.Equivalent equivalent) = Unit {0}
InLimits a (entry.AccountEnd end) = Unit {0}
InLimits a (entry.FileEnd records) = Unit {0}

abbrev pub account_with : OpenAccount → Entry → OpenAccount
account_with a (entry.Account head name) = begun head
account_with a (entry.Movement m reference) = turned a m.key m.amount
account_with a (entry.Text sequence one two) = a
account_with a (entry.Equivalent equivalent) = a
account_with a (entry.AccountEnd end) = a
account_with a (entry.FileEnd records) = a

-- the refusal of an offer, if it is refused: the record's number is one more than those taken
abbrev pub refusal_of : Reading → List ℕ → Option Refusal
refusal_of s o = option_map (λ cause. record { cause = cause; «record» = s.taken + 1 }) (cause_of s.phase s.taken s.account o)

-- what stands for the head of the open account before one has begun
abbrev pub no_head : AccountHead
no_head = record {
  number = record { entity = 0; office = 0; number = 0 };
  period = record { first = record { digits = 0 }; last = record { digits = 0 } };
  initial = record { key = Debit; amount = 0 };
  currency = 0;
  modality = First;
}

-- a reading just made
pub record New (s : Reading) : Type 0 where
  pub at_start : s.phase ≡ Start
  pub none_taken : s.taken ≡ 0
  pub no_account : s.account ≡ begun no_head

-- the answer to a close: the file must have ended
abbrev pub unfinished : ℕ → Result (Unit {0}) Refusal
unfinished taken = Err (record { cause = Unfinished; «record» = taken + 1 })

abbrev pub closing : Phase → ℕ → Result (Unit {0}) Refusal
closing Start taken = unfinished taken
closing Between taken = unfinished taken
closing Opened taken = unfinished taken
closing (Texts n) taken = unfinished taken
closing Converted taken = unfinished taken
closing Ended taken = Ok tt
