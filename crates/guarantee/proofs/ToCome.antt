-- What may still come after the records that a reading took: the parts of a correct file that are left, counted on from
-- what the reading holds. Assumes nothing.
use Rattle.std.proofs.Common.{◌≡◌, ℕ, ◌+◌, ◌≤◌, List, [], ◌∷◌, ◌++◌, length, codes, Option}
use Rattle.std.specs.List.{flat_map, AllByRecursion}
use Rattle.values.specs.declared.parts.AccountHead.{AccountHead}
use Rattle.values.specs.declared.parts.OpenAccount.{OpenAccount}
use Rattle.records.specs.Rules.{movement_checks, equivalent_checks, account_end_checks, file_end_checks}
use Rattle.reading.specs.Progress.{Progress}
use Rattle.reading.specs.declared.phases.Phase.{Phase}
use Rattle.reading.specs.declared.phases.Phase.TheVariants.{Start, Between, Opened, Texts, Converted, Ended}
use Rattle.guarantee.specs.Files.{Keeps, Movement, if_any, movement_records, Numbered, Account, account_records, CorrectAccount}
use Rattle.guarantee.proofs.Turning.{turned_by, after_all}

-- what follows a movement's main record and so many texts
pub record Details (h : AccountHead) (k : ℕ) (more : List (List ℕ)) (last : Option (List ℕ)) : Type 0 where
  pub texts : Numbered k more
  pub few : k + length more ≤ 5
  pub equivalent : AllByRecursion (Keeps (codes "24") (equivalent_checks h)) (if_any last)

-- movements one by one, each in the limits that the account leaves it
abbrev pub Movements : OpenAccount → List Movement → Type 0
Movements a [] = Unit {0}
Movements a (m ∷ ms) = Keeps (codes "22") (movement_checks a) m.main × Details (turned_by a m.main).head 0 m.texts m.equivalent × Movements (turned_by a m.main) ms

-- after n records, outside an account: accounts, and the file end
pub record Accounts (n : ℕ) (rest : List (List ℕ)) : Type 0 where
  pub accounts : List Account
  pub end : List ℕ
  pub whole : rest ≡ flat_map account_records accounts ++ (end ∷ [])
  pub each : AllByRecursion CorrectAccount accounts
  pub last : Keeps (codes "88") (file_end_checks (n + length (flat_map account_records accounts))) end
  pub bound : n + length (flat_map account_records accounts) ≤ 999999

-- in an account: movements, the account's end, and what may follow it
pub record InAccount (a : OpenAccount) (n : ℕ) (rest : List (List ℕ)) : Type 0 where
  pub movements : List Movement
  pub end : List ℕ
  pub behind : List (List ℕ)
  pub whole : rest ≡ flat_map movement_records movements ++ (end ∷ behind)
  pub each : Movements a movements
  pub closes : Keeps (codes "33") (account_end_checks (after_all a movements)) end
  pub then : Accounts (n + (length (flat_map movement_records movements) + 1)) behind

-- in a movement, after k of its texts: texts, an equivalent if there is one, and what may follow in the account
pub record InMovement (a : OpenAccount) (k n : ℕ) (rest : List (List ℕ)) : Type 0 where
  pub texts : List (List ℕ)
  pub equivalent : Option (List ℕ)
  pub behind : List (List ℕ)
  pub whole : rest ≡ (texts ++ if_any equivalent) ++ behind
  pub details : Details a.head k texts equivalent
  pub then : InAccount a (n + length (texts ++ if_any equivalent)) behind

abbrev pub Coming : Phase → ℕ → OpenAccount → List (List ℕ) → Type 0
Coming Start n a rest = (t : Accounts n rest) × (1 ≤ length t.accounts)
Coming Between n a rest = Accounts n rest
Coming Opened n a rest = InAccount a n rest
Coming (Texts k) n a rest = InMovement a k n rest
Coming Converted n a rest = InAccount a n rest
Coming Ended n a rest = rest ≡ []

abbrev pub ToCome : Progress → List (List ℕ) → Type 0
ToCome p rest = Coming p.phase p.taken p.account rest
