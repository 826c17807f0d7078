-- Counts and totals of any size, held in 32 and in 64 bits: one that is too large stays at the largest. Assumes nothing.
use Rattle.values.specs.Balances.{capped}
use Rattle.values.specs.declared.parts.OpenAccount.{OpenAccount}

abbrev pub capped_account : OpenAccount → OpenAccount
capped_account a = record { head = a.head; debits = capped a.debits; credits = capped a.credits }
