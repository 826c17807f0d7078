-- How far a reading has come, and how each record moves it on. Assumes nothing.
use Rattle.std.specs.Prelude.{ℕ, ◌+◌, List, Some, None, Option}
use Rattle.std.specs.Option.{option_map}
use Rattle.values.specs.Balances.{begun}
use Rattle.values.specs.declared.parts.OpenAccount.{OpenAccount}
use Rattle.reading.specs.Offers.{kind_in, cause_of}
use Rattle.reading.specs.Phases.{next}
use Rattle.reading.specs.Taken.{no_head, account_after}
use Rattle.reading.specs.declared.kinds.Kind.{Kind}
use Rattle.reading.specs.declared.phases.Phase.{Phase}
use Rattle.reading.specs.declared.phases.Phase.TheVariants.{Start}
use Rattle.reading.specs.declared.readings.Reading.{Reading}
use Rattle.reading.specs.declared.refusals.Refusal.{Refusal}

-- the phase, the number of records taken, and the account that is open
pub record Progress : Type 0 where
  pub phase : Phase
  pub taken : ℕ
  pub account : OpenAccount

abbrev pub progress : Reading → Progress
progress s = record { phase = s.phase; taken = s.taken; account = s.account }

-- nothing is taken
unfoldable pub at_start : Progress
at_start = record {
  phase = Start;
  taken = 0;
  account = begun no_head;
}

-- why a record is refused here, if it is, with its number
unfoldable pub refused : Progress → List ℕ → Option Refusal
refused p o = option_map (λ cause. record { cause = cause; «record» = p.taken + 1 }) (cause_of p.phase p.taken p.account o)

-- after a record of a kind that may come here
abbrev pub moved_to : Progress → List ℕ → Kind → Option Phase → Progress
moved_to p o kind None = p
moved_to p o kind (Some phase) = record { phase = phase; taken = p.taken + 1; account = account_after p.account o kind }

abbrev pub moved : Progress → List ℕ → Option Kind → Progress
moved p o None = p
moved p o (Some kind) = moved_to p o kind (next p.phase kind)

-- after a record that is taken
unfoldable pub after : Progress → List ℕ → Progress
after p o = moved p o (kind_in o)
