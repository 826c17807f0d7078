-- Reading a correct file enters just the rows that it is kept in. Assumes nothing.
use Rattle.std.proofs.Common.{◌≡◌, ℕ, suc, ◌+◌, Bool, true, false, cond, ltb, List, [], ◌∷◌, ◌++◌, map, length, Some, None, codes, Option, sym, refl, ap, ◌∙◌, subst, arith}
use Rattle.std.specs.Option.{option_map}
use Rattle.std.specs.List.{flat_map, AllByRecursion}
use Rattle.std.proofs.lemmas.List.{append-nil, append_assoc}
use Rattle.fields.specs.declared.keys.Key.{Key}
use Rattle.fields.specs.declared.keys.Key.TheVariants.{Debit, Credit}
use Rattle.values.specs.Balances.{turned}
use Rattle.values.specs.declared.parts.AccountHead.{AccountHead}
use Rattle.values.specs.declared.parts.Equivalent.{Equivalent}
use Rattle.values.specs.declared.parts.Movement.{Movement as MovementNumbers}
use Rattle.values.specs.declared.parts.OpenAccount.{OpenAccount}
use Rattle.records.specs.Checks.{columns}
use Rattle.records.specs.Rules.{equivalent_checks}
use Rattle.records.specs.Values.{number_at, key_at, account_in, movement_in, equivalent_in}
use Rattle.reading.specs.Offers.{kind_in}
use Rattle.reading.specs.Phases.{next}
use Rattle.reading.specs.Progress.{Progress, at_start, moved, moved_to, after}
use Rattle.reading.specs.Taken.{account_after}
use Rattle.reading.specs.declared.kinds.Kind.{Kind}
use Rattle.reading.specs.declared.kinds.Kind.TheVariants.{Account as AccountKind, Movement as MovementKind, Text, Equivalent as EquivalentKind, AccountEnd, FileEnd}
use Rattle.reading.specs.declared.phases.Phase.{Phase}
use Rattle.reading.specs.declared.phases.Phase.TheVariants.{Start, Between, Opened, Texts, Converted, Ended}
use Rattle.table.proofs.Filling.{revised_last}
use Rattle.rows.specs.Kept.{Rows, no_rows}
use Rattle.rows.specs.declared.accounts.AccountRow.{AccountRow}
use Rattle.rows.specs.declared.movements.MovementRow.{MovementRow}
use Rattle.rows.specs.declared.texts.TextRow.{TextRow}
use Rattle.archiving.specs.Entering.{one_movement_more, one_text_more, converted_to, ended_with, with_end, entered_as}
use Rattle.archiving.specs.Reads.{of_kind, entered}
use Rattle.edition.proofs.Codes.{kind_there}
use Rattle.guarantee.specs.KeptIn.{text_row_of, movement_row_of, account_row_of, texts_in, movements_in, account_texts_in, kept_rows}
use Rattle.guarantee.specs.Files.{Keeps, Movement, if_any, movement_records, Numbered, CorrectMovement, Account, account_records, CorrectAccount, CorrectFile}

-- how far a reading has come after records, and the rows that it has entered
abbrev pub after_all : Progress → List (List ℕ) → Progress
after_all p [] = p
after_all p (o ∷ rest) = after_all (after p o) rest

abbrev pub entered_all : Progress → Rows → List (List ℕ) → Rows
entered_all p t [] = t
entered_all p t (o ∷ rest) = entered_all (after p o) (entered p o t) rest

pub after_append : (p : Progress) (xs ys : List (List ℕ)) → after_all p (xs ++ ys) ≡ after_all (after_all p xs) ys
after_append p [] ys = refl
after_append p (x ∷ xs) ys = after_append (after p x) xs ys

pub entered_append : (p : Progress) (t : Rows) (xs ys : List (List ℕ)) → entered_all p t (xs ++ ys) ≡ entered_all (after_all p xs) (entered_all p t xs) ys
entered_append p t [] ys = refl
entered_append p t (x ∷ xs) ys = entered_append (after p x) (entered p x t) xs ys

-- rows table by table
abbrev pub rows_of : List AccountRow → List MovementRow → List TextRow → Rows
rows_of accounts movements texts = record { accounts = accounts; movements = movements; texts = texts }

-- in an account with this head: the account may end here
record Inside (h : AccountHead) (p : Progress) : Type 0 where
  phase : next p.phase AccountEnd ≡ Some Between
  head : p.account.head ≡ h

-- a kind of record that leaves the account open
abbrev Ends : Option Phase → Type 0
Ends None = Unit {0}
Ends (Some phase) = next phase AccountEnd ≡ Some Between

record Continues (k : Kind) : Type 0 where
  ends : (phase : Phase) → Ends (next phase k)
  keeps : (a : OpenAccount) (o : List ℕ) → (account_after a o k).head ≡ a.head

turned_head : (a : OpenAccount) (k : Key) (n : ℕ) → (turned a k n).head ≡ a.head
turned_head a Debit n = refl
turned_head a Credit n = refl

movement_continues : Continues MovementKind
movement_continues = record { ends = ends; keeps = λ a o. turned_head a (key_at 28 o) (number_at 29 42 o) }
  where
    ends : (phase : Phase) → Ends (next phase MovementKind)
    ends Start = tt
    ends Between = tt
    ends Opened = refl
    ends (Texts n) = refl
    ends Converted = refl
    ends Ended = tt

text_continues : Continues Text
text_continues = record { ends = ends; keeps = λ a o. refl }
  where
    more : (n : ℕ) (b : Bool) → Ends (cond b (Some (Texts (n + 1))) None)
    more n true = refl
    more n false = tt

    ends : (phase : Phase) → Ends (next phase Text)
    ends Start = tt
    ends Between = tt
    ends Opened = tt
    ends (Texts n) = more n (ltb n 5)
    ends Converted = tt
    ends Ended = tt

equivalent_continues : Continues EquivalentKind
equivalent_continues = record { ends = ends; keeps = λ a o. refl }
  where
    ends : (phase : Phase) → Ends (next phase EquivalentKind)
    ends Start = tt
    ends Between = tt
    ends Opened = tt
    ends (Texts n) = refl
    ends Converted = tt
    ends Ended = tt

-- records that stay in an account, and the rows after them
record Enters (h : AccountHead) (p : Progress) (t : Rows) (rs : List (List ℕ)) (t' : Rows) : Type 0 where
  inside : Inside h (after_all p rs)
  rows : entered_all p t rs ≡ t'

module _ (h : AccountHead) where
  entered_one : (p : Progress) (t : Rows) (o : List ℕ) (k : Kind) → kind_in o ≡ Some k → Inside h p → entered p o t ≡ entered_as h.modality o t k
  unfolding entered
  entered_one p t o k is at = ap (of_kind t (entered_as p.account.head.modality o t)) is ∙ ap (λ (x : AccountHead). entered_as x.modality o t k) at.head

  stays_inside : (p : Progress) (o : List ℕ) (k : Kind) → Continues k → kind_in o ≡ Some k → Inside h p → Inside h (after p o)
  unfolding after
  stays_inside p o k c is at = subst (λ x. Inside h (moved p o x)) (sym is) (go (next p.phase k) (c.ends p.phase))
    where
      go : (x : Option Phase) → Ends x → Inside h (moved_to p o k x)
      go None e = at
      go (Some phase) e = record { phase = e; head = c.keeps p.account o ∙ at.head }

  one_enters : (p : Progress) (t : Rows) (o : List ℕ) (k : Kind) → Continues k → kind_in o ≡ Some k → Inside h p → Enters h p t (o ∷ []) (entered_as h.modality o t k)
  one_enters p t o k c is at = record { inside = stays_inside p o k c is at; rows = entered_one p t o k is at }

  then_enters : {p : Progress} {t t' t'' : Rows} {xs ys : List (List ℕ)} → Enters h p t xs t' → ((q : Progress) → Inside h q → Enters h q t' ys t'') → Enters h p t (xs ++ ys) t''
  then_enters {p} {t} {xs = xs} {ys = ys} e k =
      let e' = k (after_all p xs) e.inside in
      record {
        inside = subst (Inside h) (sym (after_append p xs ys)) e'.inside;
        rows = entered_append p t xs ys ∙ (ap (λ s. entered_all (after_all p xs) s ys) e.rows ∙ e'.rows);
      }

  are_rows : {p : Progress} {t t' t'' : Rows} {rs : List (List ℕ)} → Enters h p t rs t' → t' ≡ t'' → Enters h p t rs t''
  are_rows e same = record { inside = e.inside; rows = e.rows ∙ same }

  -- the texts and the equivalent of a movement that is entered last
  module _ (us : List AccountRow) (ms : List MovementRow) (movement : MovementNumbers) (reference : List ℕ) where
    abbrev with_last : ℕ → Option Equivalent → List TextRow → Rows
    with_last n e ts = rows_of us (ms ++ (record { movement = movement; reference_2 = reference; texts = n; equivalent = e } ∷ [])) ts

    texts_enter : (n k : ℕ) (ts : List TextRow) (rs : List (List ℕ)) → Numbered k rs → (p : Progress) → Inside h p → Enters h p (with_last n None ts) rs (with_last (n + length rs) None (ts ++ map text_row_of rs))
    texts_enter n k ts [] c p at =
        let none : n ≡ n + 0 = omega arith in
        record { inside = at; rows = ap (λ m. with_last m None ts) none ∙ ap (with_last (n + 0) None) (sym (append-nil ts)) }
    texts_enter n k ts (r ∷ rs) c p at =
        let on : (n + 1) + length rs ≡ n + suc (length rs) = omega arith in
        then_enters
        (are_rows (one_enters p (with_last n None ts) r Text text_continues (kind_there r Text c.0.code) at) (ap (λ l. rows_of us l (ts ++ (text_row_of r ∷ []))) (revised_last one_text_more ms _)))
        (λ q in'. are_rows (texts_enter (n + 1) (k + 1) (ts ++ (text_row_of r ∷ [])) rs c.1 q in') (ap (λ m. with_last m None ((ts ++ (text_row_of r ∷ [])) ++ map text_row_of rs)) on ∙ ap (with_last (n + suc (length rs)) None) (append_assoc ts (text_row_of r ∷ []) (map text_row_of rs))))

    equivalent_enters : (n : ℕ) (ts : List TextRow) (x : Option (List ℕ)) → AllByRecursion (Keeps (codes "24") (equivalent_checks h)) (if_any x) → (p : Progress) → Inside h p → Enters h p (with_last n None ts) (if_any x) (with_last n (option_map equivalent_in x) ts)
    equivalent_enters n ts None c p at = record { inside = at; rows = refl }
    equivalent_enters n ts (Some r) c p at =
        are_rows (one_enters p (with_last n None ts) r EquivalentKind equivalent_continues (kind_there r EquivalentKind c.0.code) at) (ap (λ l. rows_of us l ts) (revised_last (converted_to (equivalent_in r)) ms _))

  -- a movement of an account that is entered last
  movement_enters : (us : List AccountRow) (u : AccountRow) (ms : List MovementRow) (ts : List TextRow) (v : Movement) → CorrectMovement h v → (p : Progress) → Inside h p → Enters h p (rows_of (us ++ (u ∷ [])) ms ts) (movement_records v) (rows_of (us ++ (one_movement_more u ∷ [])) (ms ++ (movement_row_of h.modality v ∷ [])) (ts ++ texts_in v))
  movement_enters us u ms ts v c p at =
      let us' = us ++ (one_movement_more u ∷ []) in
      let movement = movement_in h.modality v.main in
      let reference = columns 65 80 v.main in
      let many : 0 + length v.texts ≡ length v.texts = omega arith in
      then_enters
      (are_rows (one_enters p (rows_of (us ++ (u ∷ [])) ms ts) v.main MovementKind movement_continues (kind_there v.main MovementKind c.main.code) at) (ap (λ l. rows_of l (ms ++ (record { movement = movement; reference_2 = reference; texts = 0; equivalent = None } ∷ [])) ts) (revised_last one_movement_more us u)))
      (λ q in'. then_enters
      (are_rows (texts_enter us' ms movement reference 0 0 ts v.texts c.texts q in') (ap (λ n. with_last us' ms movement reference n None (ts ++ texts_in v)) many))
      (equivalent_enters us' ms movement reference (length v.texts) (ts ++ texts_in v) v.equivalent c.equivalent))

  -- the movements of an account that is entered last
  abbrev with_open : List AccountRow → List ℕ → ℕ → List MovementRow → List TextRow → Rows
  with_open us name n ms ts = rows_of (us ++ (record { head = h; name = name; movements = n; final_key = None } ∷ [])) ms ts

  movements_enter : (us : List AccountRow) (name : List ℕ) (n : ℕ) (ms : List MovementRow) (ts : List TextRow) (vs : List Movement) → AllByRecursion (CorrectMovement h) vs → (p : Progress) → Inside h p → Enters h p (with_open us name n ms ts) (flat_map movement_records vs) (with_open us name (n + length vs) (ms ++ map (movement_row_of h.modality) vs) (ts ++ flat_map texts_in vs))
  movements_enter us name n ms ts [] c p at =
      let none : n ≡ n + 0 = omega arith in
      let ms' = sym (append-nil ms) in
      let ts' = sym (append-nil ts) in
      record { inside = at; rows = λ i. with_open us name (none i) (ms' i) (ts' i) }
  movements_enter us name n ms ts (v ∷ vs) c p at =
      let row = movement_row_of h.modality in
      let on : (n + 1) + length vs ≡ n + suc (length vs) = omega arith in
      let ms' = append_assoc ms (row v ∷ []) (map row vs) in
      let ts' = append_assoc ts (texts_in v) (flat_map texts_in vs) in
      then_enters
      (movement_enters us _ ms ts v c.0 p at)
      (λ q in'. are_rows (movements_enter us name (n + 1) (ms ++ (row v ∷ [])) (ts ++ texts_in v) vs c.1 q in') (λ i. with_open us name (on i) (ms' i) (ts' i)))

-- an account after rows of others
abbrev pub beside : Rows → Rows → Rows
beside t u = rows_of (t.accounts ++ u.accounts) (t.movements ++ u.movements) (t.texts ++ u.texts)

abbrev rows_in : Account → Rows
rows_in a = rows_of (account_row_of a ∷ []) (movements_in a) (account_texts_in a)

module _ (p : Progress) (t : Rows) (opens : next p.phase AccountKind ≡ Some Opened) where
  head_enters : (o : List ℕ) → kind_in o ≡ Some AccountKind → Enters (account_in o) p t (o ∷ []) (with_open (account_in o) t.accounts (columns 52 77 o) 0 t.movements t.texts)
  unfolding after entered
  head_enters o is = record {
    inside = subst (Inside (account_in o)) (sym (ap (moved p o) is ∙ ap (moved_to p o AccountKind) opens)) (record { phase = refl; head = refl });
    rows = ap (of_kind t (entered_as p.account.head.modality o t)) is;
  }

-- the end of an account
end_moves : (h : AccountHead) (p : Progress) (o : List ℕ) → kind_in o ≡ Some AccountEnd → Inside h p → (after p o).phase ≡ Between
unfolding after
end_moves h p o is at = ap (λ (q : Progress). q.phase) (ap (moved p o) is ∙ ap (moved_to p o AccountEnd) at.phase)

account_enters : (a : Account) → CorrectAccount a → (p : Progress) (t : Rows) → next p.phase AccountKind ≡ Some Opened → ((after_all p (account_records a)).phase ≡ Between) × (entered_all p t (account_records a) ≡ beside t (rows_in a))
account_enters a c p t opens =
    let h = account_in a.head in
    let name = columns 52 77 a.head in
    let inner = flat_map movement_records a.movements in
    let many : 0 + length a.movements ≡ length a.movements = omega arith in
    let ends = kind_there a.end AccountEnd c.end.code in
    let open' = then_enters h {ys = inner} (head_enters p t opens a.head (kind_there a.head AccountKind c.head.code)) (movements_enter h t.accounts name 0 t.movements t.texts a.movements c.movements) in
    let q = after_all p (a.head ∷ inner) in
    let key = key_at 59 a.end in
    let row : ℕ → AccountRow = λ n. record { head = h; name = name; movements = n; final_key = Some key } in
    let ms = t.movements ++ movements_in a in
    let ts = t.texts ++ account_texts_in a in (
      ap (λ (s : Progress). s.phase) (after_append p (a.head ∷ inner) (a.end ∷ [])) ∙ end_moves h q a.end ends open'.inside,
      entered_append p t (a.head ∷ inner) (a.end ∷ []) ∙ (entered_one h q _ a.end AccountEnd ends open'.inside
          ∙ (ap (with_end key) open'.rows ∙ (ap (λ us. rows_of us ms ts) (revised_last (ended_with key) t.accounts _) ∙ ap (λ n. rows_of (t.accounts ++ (row n ∷ [])) ms ts) many))),
    )

accounts_enter : (accounts : List Account) → AllByRecursion CorrectAccount accounts → (p : Progress) (t : Rows) → next p.phase AccountKind ≡ Some Opened → entered_all p t (flat_map account_records accounts) ≡ beside t (kept_rows accounts)
accounts_enter [] c p t opens = sym (λ i. rows_of (append-nil t.accounts i) (append-nil t.movements i) (append-nil t.texts i))
accounts_enter (a ∷ accounts) c p t opens =
    let first = account_enters a c.0 p t opens in
    let q = after_all p (account_records a) in
    let others = kept_rows accounts in
    let us = append_assoc t.accounts (account_row_of a ∷ []) others.accounts in
    let ms = append_assoc t.movements (movements_in a) others.movements in
    let ts = append_assoc t.texts (account_texts_in a) others.texts in
    entered_append p t (account_records a) (flat_map account_records accounts) ∙ (ap (λ s. entered_all q s (flat_map account_records accounts)) first.1
    ∙ (accounts_enter accounts c.1 q (beside t (rows_in a)) (ap (λ phase. next phase AccountKind) first.0) ∙ (λ i. rows_of (us i) (ms i) (ts i))))

-- reading a correct file from the start, over no rows
file_end_enters : (p : Progress) (t : Rows) (o : List ℕ) → kind_in o ≡ Some FileEnd → entered p o t ≡ t
unfolding entered
file_end_enters p t o is = ap (of_kind t (entered_as p.account.head.modality o t)) is

starts : next at_start.phase AccountKind ≡ Some Opened
unfolding at_start
starts = refl

pub file_entered : (rs : List (List ℕ)) (f : CorrectFile rs) → entered_all at_start no_rows rs ≡ kept_rows f.accounts
file_entered rs f =
    let inner = flat_map account_records f.accounts in
    ap (entered_all at_start no_rows) f.whole ∙ (entered_append at_start no_rows inner (f.end ∷ [])
    ∙ (file_end_enters (after_all at_start inner) (entered_all at_start no_rows inner) f.end (kind_there f.end FileEnd f.last.code)
    ∙ accounts_enter f.accounts f.each at_start no_rows starts))
