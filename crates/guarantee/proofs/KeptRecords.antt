-- Composing what was kept of a correct file gives its records back. Assumes nothing.
use Rattle.std.proofs.Common.{◌≡◌, ℕ, suc, ◌+◌, ◌≤◌, Bool, true, eqb, leb, List, [], ◌∷◌, ◌++◌, map, length, take, drop, Some, None, Ok, codes, Option, sym, refl, ap, ◌∙◌, subst, arith}
use lib.ListN.{length-map}
use Rattle.std.specs.Option.{option_map}
use Rattle.std.specs.List.{flat_map, AllByRecursion}
use Rattle.std.proofs.lemmas.List.{take_at, drop_at}
use Rattle.std.proofs.lemmas.Bool.{eqb-true, le-leb, and_parts, and_from}
use Rattle.fields.specs.Decimal.{all_digits}
use Rattle.fields.specs.declared.keys.Key.{Key}
use Rattle.fields.specs.declared.keys.Key.TheVariants.{Debit, Credit}
use Rattle.fields.specs.declared.modalities.Modality.{Modality}
use Rattle.values.specs.Balances.{begun, most, debit_of, credit_of, balances, owed_to, owed_by, counts_in_limit, stays_in_limit}
use Rattle.values.specs.declared.parts.AccountHead.{AccountHead}
use Rattle.values.specs.declared.parts.OpenAccount.{OpenAccount}
use Rattle.values.specs.declared.parts.Turnover.{Turnover}
use Rattle.media.specs.Meaning.{all_characters}
use Rattle.records.specs.Checks.{Check, columns, judged, tested, digits, spaces, date, common_concept, key, limited}
use Rattle.records.specs.Rules.{origin_checks, operation_checks, amount_checks, movement_checks, equivalent_checks}
use Rattle.records.specs.Values.{number_at, key_at, modality_at, account_in, movement_in, equivalent_in}
use Rattle.records.specs.declared.refusals.Question.TheVariants.{Form}
use Rattle.records.proofs.Holding.{split, held}
use Rattle.records.proofs.Judging.{pass}
use Rattle.composing.specs.Layouts.{movement_layout, account_end_layout, file_end_layout}
use Rattle.composing.specs.Parts.{Part, composed}
use Rattle.reading.specs.declared.kinds.Kind.TheVariants.{Account as AccountKind, Movement as MovementKind, Text, Equivalent as EquivalentKind, AccountEnd, FileEnd}
use Rattle.rows.specs.Kept.{texts_of}
use Rattle.recalling.specs.Checking.{made_or_none, record_of}
use Rattle.recalling.specs.Statements.{text_records, equivalent_records, movement_records as movement_layouts, movements_records as movements_layouts, debits_of as debits_in, credits_of as credits_in, close_of, account_records as account_layouts, accounts_records as accounts_layouts, before_end, statement_records}
use Rattle.recalling.specs.Writing.{records_of}
use Rattle.edition.proofs.Codes.{kind_there}
use Rattle.edition.proofs.Left.{number_room}
use Rattle.edition.proofs.Restoring.{closed, account_restored, movement_restored, text_restored, equivalent_restored, account_end_restored, file_end_restored}
use Rattle.guarantee.specs.Files.{Keeps, Movement, if_any, movement_records, movement_rules, Numbered, CorrectMovement, debits_of, credits_of, turned_over, Account, account_records, CorrectAccount, CorrectFile}
use Rattle.guarantee.proofs.KeptCounts.{texts_counted}
use Rattle.guarantee.specs.KeptIn.{text_row_of, movement_row_of, account_row_of, texts_in, movements_in, account_texts_in, kept_rows}

-- layouts from which just these records are composed, one after the other
abbrev pub Spelled : List (List Part) → List (List ℕ) → Type 0
Spelled [] [] = Unit {0}
Spelled [] (r ∷ rs) = ⊥
Spelled (l ∷ ls) [] = ⊥
Spelled (l ∷ ls) (r ∷ rs) = (composed l ≡ Ok r) × Spelled ls rs

spelled_append : (ls ks : List (List Part)) (rs ss : List (List ℕ)) → Spelled ls rs → Spelled ks ss → Spelled (ls ++ ks) (rs ++ ss)
spelled_append [] ks [] ss h k = k
spelled_append [] ks (r ∷ rs) ss h k = absurd h
spelled_append (l ∷ ls) ks [] ss h k = absurd h
spelled_append (l ∷ ls) ks (r ∷ rs) ss h k = (h.0, spelled_append ls ks rs ss h.1 k)

pub spelled_length : (ls : List (List Part)) (rs : List (List ℕ)) → Spelled ls rs → length ls ≡ length rs
spelled_length [] [] h = refl
spelled_length [] (r ∷ rs) h = absurd h
spelled_length (l ∷ ls) [] h = absurd h
spelled_length (l ∷ ls) (r ∷ rs) h = ap suc (spelled_length ls rs h.1)

pub spelled_records : (ls : List (List Part)) (rs : List (List ℕ)) → Spelled ls rs → records_of ls ≡ rs
spelled_records [] [] h = refl
spelled_records [] (r ∷ rs) h = absurd h
spelled_records (l ∷ ls) [] h = absurd h
spelled_records (l ∷ ls) (r ∷ rs) h = λ i. made_or_none (h.0 i) ∷ spelled_records ls rs h.1 i

pub spelled_each : (ls : List (List Part)) (rs : List (List ℕ)) → Spelled ls rs → AllByRecursion (λ l. composed l ≡ Ok (record_of l)) ls
spelled_each [] rs h = tt
spelled_each (l ∷ ls) [] h = absurd h
spelled_each (l ∷ ls) (r ∷ rs) h = (h.0 ∙ ap (λ x. Ok (made_or_none x)) (sym h.0), spelled_each ls rs h.1)

keeps_long : {mark : List ℕ} {rules : List Check} (r : List ℕ) → Keeps mark rules r → length r ≡ 80
keeps_long r k = eqb-true (length r) 80 (and_parts (eqb (length r) 80) (all_characters r) k.characters).0

-- texts and the equivalent
texts_spelled : (n : ℕ) (rs : List (List ℕ)) → Numbered n rs → Spelled (text_records n (map text_row_of rs)) rs
texts_spelled n [] c = tt
texts_spelled n (r ∷ rs) c = (text_restored r (keeps_long r c.0) n (kind_there r Text c.0.code) c.0.fields, texts_spelled (n + 1) rs c.1)

equivalent_spelled : (h : AccountHead) (x : Option (List ℕ)) → AllByRecursion (Keeps (codes "24") (equivalent_checks h)) (if_any x) → Spelled (equivalent_records (option_map equivalent_in x)) (if_any x)
equivalent_spelled h None c = tt
equivalent_spelled h (Some r) c = (equivalent_restored r (keeps_long r c.0) h (kind_there r EquivalentKind c.0.code) c.0.fields, tt)

-- a movement that keeps its rules, and the limits of an account, passes the checks of that account
limit_passes : (a b : ℕ) (test : List ℕ → Bool) (r : List ℕ) → test r ≡ true → None ≡ judged (limited a b test) r
unfolding judged tested
limit_passes a b test r h = rw h refl

pub movement_passes : (a : OpenAccount) (r : List ℕ) → judged (movement_rules a.head) r ≡ None → counts_in_limit a (key_at 28 r) ≡ true → stays_in_limit a (key_at 28 r) (number_at 29 42 r) ≡ true → judged (movement_checks a) r ≡ None
movement_passes a r h counts stays =
    let m = a.head.modality in
    let h₁ = split (spaces 3 6) _ r (sym h) in
    let h₂ = split (origin_checks m) _ r h₁.1 in
    let h₃ = split (operation_checks a.head.period) _ r h₂.1 in
    let h₄ = split (date 17 22) _ r h₃.1 in
    let h₅ = split (common_concept 23 24) _ r h₄.1 in
    let h₆ = split (digits 25 27) _ r h₅.1 in
    let h₇ = split (key 28) _ r h₆.1 in
    let h₈ = split (digits 29 42) _ r h₇.1 in
    let few = limit_passes 28 28 (λ x. counts_in_limit a (key_at 28 x)) r counts in
    let small = limit_passes 29 42 (λ x. stays_in_limit a (key_at 28 x) (number_at 29 42 x)) r stays in
    let amount = pass (key 28) _ r None h₇.0 (pass (limited 28 28 _) _ r None few (pass (digits 29 42) _ r None h₈.0 small)) in
    sym
    (pass (spaces 3 6) _ r None h₁.0
    (pass (origin_checks m) _ r None h₂.0
    (pass (operation_checks a.head.period) _ r None h₃.0
    (pass (date 17 22) _ r None h₄.0
    (pass (common_concept 23 24) _ r None h₅.0
    (pass (digits 25 27) _ r None h₆.0 (pass (amount_checks a) _ r None amount h₈.1)))))))

-- every movement stays in the limits of an account of the same modality and period that has no balance and no movements
abbrev idle : AccountHead → OpenAccount
idle h = begun (record { number = h.number; period = h.period; initial = record { key = Debit; amount = 0 }; currency = h.currency; modality = h.modality })

idle_counts : (h : AccountHead) (k : Key) → counts_in_limit (idle h) k ≡ true
idle_counts h Debit = refl
idle_counts h Credit = refl

in_balance : (to by : ℕ) → to ≤ by + most → by ≤ to + most → balances to by ≡ true
in_balance to by h k = and_from (leb to (by + most)) (leb by (to + most)) (le-leb to (by + most) h) (le-leb by (to + most) k)

idle_stays : (h : AccountHead) (k : Key) (n : ℕ) → n ≤ most → stays_in_limit (idle h) k n ≡ true
idle_stays h Debit n small = and_from (leb (0 + n) most) _ (le-leb (0 + n) most (omega arith)) (in_balance (owed_to (idle h) + 0) (owed_by (idle h) + n) (omega arith) (omega arith))
idle_stays h Credit n small = and_from (leb (0 + n) most) _ (le-leb (0 + n) most (omega arith)) (in_balance (owed_to (idle h) + n) (owed_by (idle h) + 0) (omega arith) (omega arith))

amount_small : (h : AccountHead) (r : List ℕ) → length r ≡ 80 → judged (movement_rules h) r ≡ None → number_at 29 42 r ≤ most
unfolding digits
amount_small h r long k =
    let h₂ = (split (origin_checks h.modality) _ r (split (spaces 3 6) _ r (sym k)).1).1 in
    let h₄ = (split (date 17 22) _ r (split (operation_checks h.period) _ r h₂).1).1 in
    let h₆ = (split (digits 25 27) _ r (split (common_concept 23 24) _ r h₄).1).1 in
    let h₈ = (split (digits 29 42) _ r (split (key 28) _ r h₆).1).0 in
    omega (arith, number_room r long 29 42 refl (held Form 29 42 (λ x. all_digits (columns 29 42 x)) r h₈))

module _ (h : AccountHead) where
  main_spelled : (r : List ℕ) → Keeps (codes "22") (movement_rules h) r → composed (movement_layout (movement_in h.modality r) (columns 65 80 r)) ≡ Ok r
  main_spelled r k =
      let long = keeps_long r k in
      let stays = idle_stays h (key_at 28 r) (number_at 29 42 r) (amount_small h r long k.fields) in
      movement_restored r long (idle h) (kind_there r MovementKind k.code) (movement_passes (idle h) r k.fields (idle_counts h (key_at 28 r)) stays)

  movement_spelled : (v : Movement) → CorrectMovement h v → Spelled (movement_layouts (movement_row_of h.modality v) (texts_in v)) (movement_records v)
  movement_spelled v c =
      (main_spelled v.main c.main, spelled_append (text_records 0 (texts_in v)) (equivalent_records (option_map equivalent_in v.equivalent)) v.texts (if_any v.equivalent) (texts_spelled 0 v.texts c.texts) (equivalent_spelled h v.equivalent c.equivalent))

  -- each movement has its own texts again
  movements_spelled : (vs : List Movement) → AllByRecursion (CorrectMovement h) vs → Spelled (movements_layouts (map (movement_row_of h.modality) vs) (flat_map texts_in vs)) (flat_map movement_records vs)
  movements_spelled [] c = tt
  movements_spelled (v ∷ vs) c =
      let row = movement_row_of h.modality in
      let others = flat_map texts_in vs in
      let many = length-map v.texts text_row_of in
      let own = take_at (texts_in v) others (length v.texts) many in
      let left = drop_at (texts_in v) others (length v.texts) many in
      let whole : movement_layouts (row v) (take (length v.texts) (texts_in v ++ others)) ++ movements_layouts (map row vs) (drop (length v.texts) (texts_in v ++ others)) ≡ movement_layouts (row v) (texts_in v) ++ movements_layouts (map row vs) others = λ i. movement_layouts (row v) (own i) ++ movements_layouts (map row vs) (left i) in
      subst (λ ls. Spelled ls (flat_map movement_records (v ∷ vs))) (sym whole) (spelled_append (movement_layouts (row v) (texts_in v)) (movements_layouts (map row vs) others) (movement_records v) (flat_map movement_records vs) (movement_spelled v c.0) (movements_spelled vs c.1))

-- the counts and totals of the rows are those of the movements
same_debits : (m : Modality) (vs : List Movement) → debits_in (map (movement_row_of m) vs) ≡ debits_of vs
same_debits m [] = refl
same_debits m (v ∷ vs) = ap (λ (t : Turnover). record { count = debit_of (key_at 28 v.main) 1 + t.count; total = debit_of (key_at 28 v.main) (number_at 29 42 v.main) + t.total }) (same_debits m vs)

same_credits : (m : Modality) (vs : List Movement) → credits_in (map (movement_row_of m) vs) ≡ credits_of vs
same_credits m [] = refl
same_credits m (v ∷ vs) = ap (λ (t : Turnover). record { count = credit_of (key_at 28 v.main) 1 + t.count; total = credit_of (key_at 28 v.main) (number_at 29 42 v.main) + t.total }) (same_credits m vs)

account_spelled : (a : Account) → CorrectAccount a → Spelled (account_layouts (account_row_of a) (movements_in a) (account_texts_in a)) (account_records a)
account_spelled a c =
    let h = account_in a.head in
    let key = key_at 59 a.end in
    let d = same_debits h.modality a.movements in
    let e = same_credits h.modality a.movements in
    let close : close_of (account_row_of a) (movements_in a) ≡ closed (turned_over h a.movements) key = λ i. closed (record { head = h; debits = d i; credits = e i }) key in
    let end = account_end_restored a.end (keeps_long a.end c.end) (turned_over h a.movements) (kind_there a.end AccountEnd c.end.code) c.end.fields in (
      account_restored a.head (keeps_long a.head c.head) (kind_there a.head AccountKind c.head.code) c.head.fields,
      spelled_append (movements_layouts (movements_in a) (account_texts_in a)) (account_end_layout (close_of (account_row_of a) (movements_in a)) ∷ []) (flat_map movement_records a.movements) (a.end ∷ []) (movements_spelled h a.movements c.movements) (ap (λ x. composed (account_end_layout x)) close ∙ end, tt),
    )

-- each account has its own movements and their texts again
accounts_spelled : (accounts : List Account) → AllByRecursion CorrectAccount accounts → Spelled (before_end (kept_rows accounts)) (flat_map account_records accounts)
accounts_spelled [] c = tt
accounts_spelled (a ∷ accounts) c =
    let rows = movements_in a in
    let texts = account_texts_in a in
    let others = kept_rows accounts in
    let n = length a.movements in
    let first = length-map a.movements (movement_row_of (modality_at 51 a.head)) in
    let own = take_at rows others.movements n first in
    let left = drop_at rows others.movements n first in
    let many = sym (ap texts_of own ∙ texts_counted (modality_at 51 a.head) a.movements) in
    let k = texts_of (take n (rows ++ others.movements)) in
    let own' = take_at texts others.texts k many in
    let left' = drop_at texts others.texts k many in
    let whole : before_end (kept_rows (a ∷ accounts)) ≡ account_layouts (account_row_of a) rows texts ++ before_end others = λ i. account_layouts (account_row_of a) (own i) (own' i) ++ accounts_layouts others.accounts (left i) (left' i) in
    subst (λ ls. Spelled ls (flat_map account_records (a ∷ accounts))) (sym whole) (spelled_append (account_layouts (account_row_of a) rows texts) (before_end others) (account_records a) (flat_map account_records accounts) (account_spelled a c.0) (accounts_spelled accounts c.1))

pub file_spelled : (rs : List (List ℕ)) (f : CorrectFile rs) → Spelled (statement_records (kept_rows f.accounts)) rs
file_spelled rs f =
    let inner = flat_map account_records f.accounts in
    let layouts = before_end (kept_rows f.accounts) in
    let before = accounts_spelled f.accounts f.each in
    let end = file_end_restored f.end (keeps_long f.end f.last) (length inner) (kind_there f.end FileEnd f.last.code) f.last.fields in
    let count = ap (λ n. composed (file_end_layout n)) (spelled_length layouts inner before) in
    subst (Spelled (statement_records (kept_rows f.accounts))) (sym f.whole) (spelled_append layouts (file_end_layout (length layouts) ∷ []) inner (f.end ∷ []) before (count ∙ end, tt))

-- so every layout is composed, and its records are written again, as many as there were
pub file_composed : (rs : List (List ℕ)) (f : CorrectFile rs) → AllByRecursion (λ l. composed l ≡ Ok (record_of l)) (statement_records (kept_rows f.accounts))
file_composed rs f = spelled_each (statement_records (kept_rows f.accounts)) rs (file_spelled rs f)

pub file_again : (rs : List (List ℕ)) (f : CorrectFile rs) → records_of (statement_records (kept_rows f.accounts)) ≡ rs
file_again rs f = spelled_records (statement_records (kept_rows f.accounts)) rs (file_spelled rs f)

pub file_length : (rs : List (List ℕ)) (f : CorrectFile rs) → length (statement_records (kept_rows f.accounts)) ≡ length rs
file_length rs f = spelled_length (statement_records (kept_rows f.accounts)) rs (file_spelled rs f)
