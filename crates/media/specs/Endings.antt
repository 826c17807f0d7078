-- How a carrier ends. Assumes nothing.
use Rattle.std.specs.Prelude.{Bool, true, false, Ok, Err, Result}
use Rattle.media.specs.declared.carriers.Fault.{Fault}

-- clean, or in a fault
abbrev pub Ending : Type 0
Ending = Result (Unit {0}) Fault

abbrev pub is_clean : Ending → Bool
is_clean (Ok _) = true
is_clean (Err fault) = false
