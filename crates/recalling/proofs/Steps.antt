-- How the records of a statement come one after the other. Assumes nothing.
use Rattle.std.proofs.Common.{◌≡◌, ◌+◌, List, [], ◌∷◌, ◌++◌, length, take, drop, sym, refl, ap, ◌∙◌, ap₂, arith}
use Rattle.std.proofs.lemmas.List.{append_assoc, take-take, drop-take, drop-drop, nil_from_length}
use Rattle.composing.specs.Layouts.{account_layout, movement_layout, account_end_layout}
use Rattle.composing.specs.Parts.{Part}
use Rattle.rows.specs.Kept.{texts_of}
use Rattle.rows.specs.declared.accounts.AccountRow.{AccountRow}
use Rattle.rows.specs.declared.movements.MovementRow.{MovementRow}
use Rattle.rows.specs.declared.texts.TextRow.{TextRow}
use Rattle.recalling.specs.Statements.{text_records, equivalent_records, movement_records, movements_records, close_of, accounts_records}

-- movements take no more texts than they count
texts_enough : (own : List MovementRow) (texts : List TextRow) → movements_records own (take (texts_of own) texts) ≡ movements_records own texts
texts_enough [] texts = refl
texts_enough (m ∷ rest) texts =
    ap₂ (λ a b. movement_records m a ++ b)
    (take-take m.texts (m.texts + texts_of rest) texts (omega arith))
    (ap (movements_records rest) (drop-take m.texts (texts_of rest) texts) ∙ texts_enough rest (drop m.texts texts))

-- `before` are records that still come first, and there are none
module _ (before : List (List Part)) (texts : List TextRow) (none : before ≡ []) where
  -- an account begins
  pub account_begins : (a : AccountRow) (accounts rest : List AccountRow) (movements own later : List MovementRow) → accounts ≡ a ∷ rest → own ≡ take a.movements movements → later ≡ drop a.movements movements → before ++ accounts_records accounts movements texts ≡ account_layout a.head a.name ∷ (before ++ (movements_records own texts ++ (account_end_layout (close_of a own) ∷ accounts_records rest later (drop (texts_of own) texts))))
  account_begins a accounts rest movements own later is front back =
      let end = account_end_layout (close_of a (take a.movements movements)) in
      let others = accounts_records rest (drop a.movements movements) (drop (texts_of (take a.movements movements)) texts) in
      rw (none, is, front, back) (ap (λ l. account_layout a.head a.name ∷ l) (append_assoc _ (end ∷ []) others ∙ ap (λ l. l ++ (end ∷ others)) (texts_enough (take a.movements movements) texts)))

  -- there is no account more
  pub accounts_over : (accounts : List AccountRow) (movements : List MovementRow) → length accounts ≡ 0 → before ++ accounts_records accounts movements texts ≡ []
  accounts_over accounts movements over = rw (none, nil_from_length accounts over) refl

  -- a movement begins
  pub movement_begins : (m : MovementRow) (movements left later : List MovementRow) (accounts : List AccountRow) (end : List Part) (attached : List (List Part)) (own behind : List TextRow) → movements ≡ m ∷ left → own ≡ take m.texts texts → behind ≡ drop m.texts texts → attached ≡ text_records 0 own ++ equivalent_records m.equivalent → before ++ (movements_records movements texts ++ (end ∷ accounts_records accounts later (drop (texts_of movements) texts))) ≡ movement_layout m.movement m.reference_2 ∷ (attached ++ (movements_records left behind ++ (end ∷ accounts_records accounts later (drop (texts_of left) behind))))
  movement_begins m movements left later accounts end attached own behind is front back are =
      let further = movements_records left (drop m.texts texts) in
      rw (none, is, are, front, back) (
      ap (λ l. movement_layout m.movement m.reference_2 ∷ l)
      (append_assoc (text_records 0 (take m.texts texts) ++ equivalent_records m.equivalent) further _
      ∙ ap (λ l. (text_records 0 (take m.texts texts) ++ equivalent_records m.equivalent) ++ (further ++ (end ∷ accounts_records accounts later l))) (sym (drop-drop (texts_of left) m.texts texts)))
      )

  -- the account ends
  pub account_ends : (movements later : List MovementRow) (accounts : List AccountRow) (end : List Part) → length movements ≡ 0 → before ++ (movements_records movements texts ++ (end ∷ accounts_records accounts later (drop (texts_of movements) texts))) ≡ end ∷ (before ++ accounts_records accounts later texts)
  account_ends movements later accounts end over = rw (none, nil_from_length movements over) refl
