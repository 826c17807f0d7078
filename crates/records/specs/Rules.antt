-- The rules of the six records: each field of a record, from the left, with what is asked of it.
-- A field of any characters is not asked anything. Assumes nothing.
use Rattle.std.specs.Prelude.{ℕ, suc, Bool, not, ◌&&◌, List, ◌++◌, replicate, ◌==◌, nat_eq, nat_le}
use Rattle.std.specs.Str.{bytes_eq}
use Rattle.fields.specs.Calendar.{not_before}
use Rattle.fields.specs.Decimal.{value}
use Rattle.fields.specs.declared.modalities.Modality.{Modality}
use Rattle.fields.specs.declared.modalities.Modality.TheVariants.{First, Second, Third}
use Rattle.values.specs.Balances.{counts_in_limit, stays_in_limit, key_fits, final_amount}
use Rattle.records.specs.Checks.{Check, asked, digits, spaces, date, currency, common_concept, key, modality, reference, agreeing, limited}
use Rattle.records.specs.Values.{number_at, key_at}
use Rattle.records.specs.declared.refusals.Question.TheVariants.{Value}
use Rattle.values.specs.declared.parts.AccountHead.{AccountHead}
use Rattle.values.specs.declared.parts.OpenAccount.{OpenAccount}
use Rattle.values.specs.declared.parts.Period.{Period}
use Rattle.values.specs.declared.parts.Turnover.{Turnover}

-- a number that must be n
abbrev pub same : ℕ → ℕ → ℕ → List Check
same a b n = digits a b ++ agreeing a b (λ r. nat_eq (number_at a b r) n)

-- 11, the account: entity, office, account
abbrev pub number_checks : List Check
number_checks = digits 3 6 ++ (digits 7 10 ++ digits 11 20)

-- its period: the last date is not before the first
abbrev pub period_checks : List Check
period_checks = date 21 26 ++ (date 27 32 ++ agreeing 27 32 (λ r. not_before (number_at 27 32 r) (number_at 21 26 r)))

-- and all of it: initial balance, currency, modality; the name is in columns 52 to 77
abbrev pub account_checks : List Check
account_checks =
    number_checks ++ (period_checks ++ (key 33 ++ (digits 34 47 ++ (currency 48 50 ++ (modality 51 ++ spaces 78 80)))))

-- 22, a movement: the origin office is told in modalities 2 and 3
abbrev pub origin_checks : Modality → List Check
origin_checks First = spaces 7 10
origin_checks Second = digits 7 10
origin_checks Third = digits 7 10

-- the operation date lies in the period
abbrev pub within : Period → ℕ → Bool
within p day = not_before day p.first.digits && not_before p.last.digits day

abbrev pub operation_checks : Period → List Check
operation_checks p = date 11 16 ++ agreeing 11 16 (λ r. within p (number_at 11 16 r))

abbrev pub amount_checks : OpenAccount → List Check
amount_checks a =
    key 28 ++ (limited 28 28 (λ r. counts_in_limit a (key_at 28 r))
    ++ (digits 29 42 ++ limited 29 42 (λ r. stays_in_limit a (key_at 28 r) (number_at 29 42 r))))

-- references are told in modality 3: the first with its check digit, the second of any characters
abbrev pub reference_checks : Modality → List Check
reference_checks First = spaces 53 64 ++ spaces 65 80
reference_checks Second = spaces 53 64 ++ spaces 65 80
reference_checks Third = reference 53 64

abbrev pub movement_checks : OpenAccount → List Check
movement_checks a =
    spaces 3 6 ++ (origin_checks a.head.modality ++ (operation_checks a.head.period ++ (date 17 22 ++ (common_concept 23 24 ++ (digits 25 27
    ++ (amount_checks a ++ (digits 43 52 ++ reference_checks a.head.modality)))))))

-- 23, a text after so many others of its movement; its two fields are in columns 5 to 42 and 43 to 80
abbrev pub is_sequence : List ℕ → Bool
is_sequence cs = nat_le 1 (value cs) && nat_le (value cs) 5

abbrev pub text_checks : ℕ → List Check
text_checks texts = digits 3 4 ++ (asked Value 3 4 is_sequence ++ agreeing 3 4 (λ r. nat_eq (number_at 3 4 r) (suc texts)))

-- 24, the equivalent: its currency is not the account's
abbrev pub equivalent_checks : AccountHead → List Check
equivalent_checks h =
    digits 3 4 ++ (asked Value 3 4 (λ cs. nat_eq (value cs) 1)
    ++ (currency 5 7 ++ (agreeing 5 7 (λ r. not (number_at 5 7 r == h.currency)) ++ (digits 8 21 ++ spaces 22 80))))

-- 33, the account end: it agrees with its account in every field
abbrev pub same_account_checks : AccountHead → List Check
same_account_checks h = same 3 6 h.number.entity ++ (same 7 10 h.number.office ++ same 11 20 h.number.number)

abbrev pub turnover_checks : Turnover → Turnover → List Check
turnover_checks debits credits =
    same 21 25 debits.count ++ (same 26 39 debits.total ++ (same 40 44 credits.count ++ same 45 58 credits.total))

abbrev pub final_checks : OpenAccount → List Check
final_checks a = key 59 ++ (agreeing 59 59 (λ r. key_fits a (key_at 59 r)) ++ same 60 73 (final_amount a))

abbrev pub account_end_checks : OpenAccount → List Check
account_end_checks a =
    same_account_checks a.head ++ (turnover_checks a.debits a.credits ++ (final_checks a
    ++ (currency 74 76 ++ (agreeing 74 76 (λ r. nat_eq (number_at 74 76 r) a.head.currency) ++ spaces 77 80))))

-- 88, the file end after so many records: eighteen nines, and their number
abbrev pub nines : List ℕ
nines = replicate 18 57

abbrev pub file_end_checks : ℕ → List Check
file_end_checks before = digits 3 20 ++ (asked Value 3 20 (λ cs. bytes_eq cs nines) ++ (same 21 26 before ++ spaces 27 80))
