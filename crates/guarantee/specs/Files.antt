-- The correct file, as a relation over a whole list of records. Assumes nothing.
use Rattle.std.specs.Prelude.{◌≡◌, ℕ, ◌+◌, ◌≤◌, true, List, [], ◌∷◌, ◌++◌, length, Some, None, codes, Option}
use Rattle.std.specs.List.{flat_map, AllByRecursion}
use Rattle.values.specs.Balances.{most, debit_of, credit_of, owed_to, owed_by}
use Rattle.values.specs.declared.parts.AccountHead.{AccountHead}
use Rattle.values.specs.declared.parts.OpenAccount.{OpenAccount}
use Rattle.values.specs.declared.parts.Turnover.{Turnover}
use Rattle.media.specs.Meaning.{is_record}
use Rattle.records.specs.Checks.{Check, columns, judged, digits, spaces, date, common_concept, key}
use Rattle.records.specs.Rules.{account_checks, origin_checks, operation_checks, reference_checks, text_checks, equivalent_checks, account_end_checks, file_end_checks}
use Rattle.records.specs.Values.{number_at, key_at, account_in}

-- 80 characters that begin with this code, and whose fields keep these rules
pub record Keeps (mark : List ℕ) (rules : List Check) (r : List ℕ) : Type 0 where
  pub characters : is_record r ≡ true
  pub code : columns 1 2 r ≡ mark
  pub fields : judged rules r ≡ None

-- a movement: its main record, its texts, and its equivalent if it has one
pub record Movement : Type 0 where
  pub main : List ℕ
  pub texts : List (List ℕ)
  pub equivalent : Option (List ℕ)

abbrev pub if_any : {A : Type 0} → Option A → List A
if_any None = []
if_any (Some x) = x ∷ []

abbrev pub movement_records : Movement → List (List ℕ)
movement_records m = m.main ∷ (m.texts ++ if_any m.equivalent)

-- the fields of the main record; what limits the account is said below
abbrev pub movement_rules : AccountHead → List Check
movement_rules h =
    spaces 3 6 ++ (origin_checks h.modality ++ (operation_checks h.period ++ (date 17 22 ++ (common_concept 23 24 ++ (digits 25 27
    ++ (key 28 ++ (digits 29 42 ++ (digits 43 52 ++ reference_checks h.modality))))))))

-- texts numbered one by one, after so many
abbrev pub Numbered : ℕ → List (List ℕ) → Type 0
Numbered n [] = Unit {0}
Numbered n (r ∷ rest) = Keeps (codes "23") (text_checks n) r × Numbered (n + 1) rest

pub record CorrectMovement (h : AccountHead) (m : Movement) : Type 0 where
  pub main : Keeps (codes "22") (movement_rules h) m.main
  pub texts : Numbered 0 m.texts
  pub few : length m.texts ≤ 5
  pub equivalent : AllByRecursion (Keeps (codes "24") (equivalent_checks h)) (if_any m.equivalent)

-- the debits and the credits among movements: how many, and their total
abbrev pub debits_of : List Movement → Turnover
debits_of [] = record { count = 0; total = 0 }
debits_of (m ∷ rest) = record { count = debit_of (key_at 28 m.main) 1 + (debits_of rest).count; total = debit_of (key_at 28 m.main) (number_at 29 42 m.main) + (debits_of rest).total }

abbrev pub credits_of : List Movement → Turnover
credits_of [] = record { count = 0; total = 0 }
credits_of (m ∷ rest) = record { count = credit_of (key_at 28 m.main) 1 + (credits_of rest).count; total = credit_of (key_at 28 m.main) (number_at 29 42 m.main) + (credits_of rest).total }

abbrev pub turned_over : AccountHead → List Movement → OpenAccount
turned_over h movements = record { head = h; debits = debits_of movements; credits = credits_of movements }

-- the balance, what is owed to the account less what it owes, lies within the most on both sides of zero
abbrev pub Balanced : OpenAccount → Type 0
Balanced a = (owed_to a ≤ owed_by a + most) × (owed_by a ≤ owed_to a + most)

-- an account has at most 99,999 debits and as many credits, and totals at most the most; after each movement the
-- balance is within the most
pub record InLimits (h : AccountHead) (movements : List Movement) : Type 0 where
  pub debits : (debits_of movements).count ≤ 99999
  pub credits : (credits_of movements).count ≤ 99999
  pub debited : (debits_of movements).total ≤ most
  pub credited : (credits_of movements).total ≤ most
  pub balance : (before : List Movement) (m : Movement) (behind : List Movement) → movements ≡ before ++ (m ∷ behind) → Balanced (turned_over h (before ++ (m ∷ [])))

-- an account: its head, its movements, its end
pub record Account : Type 0 where
  pub head : List ℕ
  pub movements : List Movement
  pub end : List ℕ

abbrev pub account_records : Account → List (List ℕ)
account_records a = a.head ∷ (flat_map movement_records a.movements ++ (a.end ∷ []))

-- the end agrees with the account in every field: its number, its counts and totals, its final balance, its currency
pub record CorrectAccount (a : Account) : Type 0 where
  pub head : Keeps (codes "11") account_checks a.head
  pub movements : AllByRecursion (CorrectMovement (account_in a.head)) a.movements
  pub limits : InLimits (account_in a.head) a.movements
  pub end : Keeps (codes "33") (account_end_checks (turned_over (account_in a.head) a.movements)) a.end

-- one or more accounts and then one file end, which counts the records before it, at most 999,999
pub record CorrectFile (records : List (List ℕ)) : Type 0 where
  pub accounts : List Account
  pub end : List ℕ
  pub whole : records ≡ flat_map account_records accounts ++ (end ∷ [])
  pub some : 1 ≤ length accounts
  pub each : AllByRecursion CorrectAccount accounts
  pub last : Keeps (codes "88") (file_end_checks (length (flat_map account_records accounts))) end
  pub bound : length (flat_map account_records accounts) ≤ 999999

-- a list begins a file that has it as its first records
pub record Begins (records : List (List ℕ)) : Type 0 where
  pub rest : List (List ℕ)
  pub correct : CorrectFile (records ++ rest)
