-- Counts, totals and balances of an account, and their limits. Assumes nothing.
use Rattle.std.specs.Prelude.{ℕ, ◌+◌, ◌-◌, ◌^◌, Bool, ◌&&◌, min, nat_le, nat_lt}
use Rattle.fields.specs.declared.keys.Key.{Key}
use Rattle.fields.specs.declared.keys.Key.TheVariants.{Debit, Credit}
use Rattle.values.specs.declared.parts.AccountHead.{AccountHead}
use Rattle.values.specs.declared.parts.OpenAccount.{OpenAccount}
use Rattle.values.specs.declared.parts.Turnover.{Turnover}

-- the most that fourteen digits spell
abbrev pub most : ℕ
most = 99999999999999

-- what an amount adds on either side
abbrev pub debit_of : Key → ℕ → ℕ
debit_of Debit n = n
debit_of Credit n = 0

abbrev pub credit_of : Key → ℕ → ℕ
credit_of Debit n = 0
credit_of Credit n = n

-- what an amount with a key adds on a side
abbrev pub added_to : Key → Key → ℕ → ℕ
added_to Debit k n = debit_of k n
added_to Credit k n = credit_of k n

-- the side of an account that a movement turns
abbrev pub side : OpenAccount → Key → Turnover
side a Debit = a.debits
side a Credit = a.credits

-- an account after a movement
abbrev pub turned : OpenAccount → Key → ℕ → OpenAccount
turned a Debit n = record { head = a.head; debits = record { count = a.debits.count + 1; total = a.debits.total + n }; credits = a.credits }
turned a Credit n = record { head = a.head; debits = a.debits; credits = record { count = a.credits.count + 1; total = a.credits.total + n } }

-- a count and a total in 32 and in 64 bits: one that is too large stays at the largest
abbrev pub capped : Turnover → Turnover
capped t = record { count = min t.count (2 ^ 32 - 1); total = min t.total (2 ^ 64 - 1) }

-- one movement more on a side
abbrev pub one_more : Turnover → ℕ → Turnover
one_more t n = capped (record { count = t.count + 1; total = t.total + n })

-- an account that has just begun: no movement has come
abbrev pub begun : AccountHead → OpenAccount
begun h = record { head = h; debits = record { count = 0; total = 0 }; credits = record { count = 0; total = 0 } }

-- an account after a movement, with the counts and totals that stay at the largest
abbrev pub turned_capped : OpenAccount → Key → ℕ → OpenAccount
turned_capped a Debit n = record { head = a.head; debits = one_more a.debits n; credits = a.credits }
turned_capped a Credit n = record { head = a.head; debits = a.debits; credits = one_more a.credits n }

-- the balance is what is owed to the account less what it owes: the initial balance and the movements
abbrev pub owed_to : OpenAccount → ℕ
owed_to a = credit_of a.head.initial.key a.head.initial.amount + a.credits.total

abbrev pub owed_by : OpenAccount → ℕ
owed_by a = debit_of a.head.initial.key a.head.initial.amount + a.debits.total

-- either of the two, by the side of its movements
abbrev pub owed : OpenAccount → Key → ℕ
owed a Debit = owed_by a
owed a Credit = owed_to a

-- an account has at most 99,999 debits and as many credits
abbrev pub counts_in_limit : OpenAccount → Key → Bool
counts_in_limit a k = nat_lt (side a k).count 99999

-- after a movement its total is at most the most, and the balance lies within it on both sides of zero
abbrev pub balances : ℕ → ℕ → Bool
balances to by = nat_le to (by + most) && nat_le by (to + most)

abbrev pub stays_in_limit : OpenAccount → Key → ℕ → Bool
stays_in_limit a k n = nat_le ((side a k).total + n) most && balances (owed_to a + credit_of k n) (owed_by a + debit_of k n)

-- the key of the final balance: debit where it is not positive, credit where it is not negative
abbrev pub key_fits : OpenAccount → Key → Bool
key_fits a Debit = nat_le (owed_to a) (owed_by a)
key_fits a Credit = nat_le (owed_by a) (owed_to a)

abbrev pub final_amount : OpenAccount → ℕ
final_amount a = (owed_to a - owed_by a) + (owed_by a - owed_to a)
