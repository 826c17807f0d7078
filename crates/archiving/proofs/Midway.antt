-- A read that has come some way. Assumes nothing.
use Rattle.std.proofs.Common.{◌≡◌, ℕ, ◌+◌, ◌≤◌, List, [], ◌∷◌, length, Bool, true, Some, None, Ok, Err, Option, Result, sym, refl, ap, ◌∙◌, subst, ap₂, arith, length-append}
use Rattle.fields.specs.declared.keys.Key.{Key}
use Rattle.fields.specs.declared.modalities.Modality.{Modality}
use Rattle.values.specs.declared.parts.Equivalent.{Equivalent}
use Rattle.records.specs.Checks.{columns}
use Rattle.records.specs.Values.{key_at, account_in, movement_in, equivalent_in}
use Rattle.media.proofs.Midway.{record_drawn}
use Rattle.media.specs.Endings.{Ending}
use Rattle.media.specs.Meaning.{Draws}
use Rattle.media.specs.declared.carriers.Fault.{Fault}
use Rattle.reading.specs.Offers.{kind_in}
use Rattle.reading.specs.Progress.{Progress, at_start, after}
use Rattle.reading.specs.declared.kinds.Kind.{Kind}
use Rattle.reading.specs.declared.kinds.Kind.TheVariants.{Account, Movement, Text, Equivalent as EquivalentKind, AccountEnd, FileEnd}
use Rattle.table.proofs.Filling.{onward, length-revised}
use Rattle.rows.specs.Kept.{Rows, no_rows, movements_of, texts_of}
use Rattle.rows.specs.Tables.{rows_in, room_in, Holds}
use Rattle.rows.specs.declared.accounts.AccountRow.{AccountRow}
use Rattle.rows.specs.declared.archive.Tables.{Tables}
use Rattle.rows.specs.declared.movements.MovementRow.{MovementRow}
use Rattle.rows.specs.declared.texts.TextRow.{TextRow}
use Rattle.archiving.specs.Entering.{account_row, movement_row, text_row, one_movement_more, one_text_more, ended_with, converted_to, with_account, with_movement, with_text, with_equivalent, with_end, entered_as}
use Rattle.archiving.specs.Reads.{Outcome, of_kind, entered, stopping, at_end, unless_stopped, outcome, read_of}
use Rattle.archiving.specs.declared.refusals.ReadRefusal.{ReadRefusal}
use Rattle.archiving.proofs.Counting.{sum_append, sum_revised}

-- no table loses a row
pub record Longer (t t' : Rows) : Type 0 where
  pub accounts : length t.accounts ≤ length t'.accounts
  pub movements : length t.movements ≤ length t'.movements
  pub texts : length t.texts ≤ length t'.texts

-- and each count grows by one at most
pub record Grows (t t' : Rows) : Type 0 where
  pub longer : Longer t t'
  pub movements_counted : movements_of t'.accounts ≤ movements_of t.accounts + 1
  pub texts_counted : texts_of t'.movements ≤ texts_of t.movements + 1

stays : (t : Rows) → Grows t t
stays t = record { longer = record { accounts = omega arith; movements = omega arith; texts = omega arith }; movements_counted = omega arith; texts_counted = omega arith }

-- a row more, and another last row
more_accounts : (a : AccountRow) → a.movements ≡ 0 → (t : Rows) → Grows t (with_account a t)
more_accounts a none t = record {
  longer = record { accounts = omega (arith, length-append t.accounts (a ∷ [])); movements = omega arith; texts = omega arith };
  movements_counted = omega (arith, none, sum_append (λ (x : AccountRow). x.movements) t.accounts (a ∷ []));
  texts_counted = omega arith;
}

more_movements : (m : MovementRow) → m.texts ≡ 0 → (t : Rows) → Grows t (with_movement m t)
more_movements m none t = record {
  longer = record { accounts = omega (arith, length-revised one_movement_more t.accounts); movements = omega (arith, length-append t.movements (m ∷ [])); texts = omega arith };
  movements_counted = sum_revised (λ (x : AccountRow). x.movements) one_movement_more (λ x. omega arith) t.accounts;
  texts_counted = omega (arith, none, sum_append (λ (x : MovementRow). x.texts) t.movements (m ∷ []));
}

more_texts : (text : TextRow) (t : Rows) → Grows t (with_text text t)
more_texts text t = record {
  longer = record { accounts = omega arith; movements = omega (arith, length-revised one_text_more t.movements); texts = omega (arith, length-append t.texts (text ∷ [])) };
  movements_counted = omega arith;
  texts_counted = sum_revised (λ (x : MovementRow). x.texts) one_text_more (λ x. omega arith) t.movements;
}

converted : (q : Equivalent) (t : Rows) → Grows t (with_equivalent q t)
converted q t = record {
  longer = record { accounts = omega arith; movements = omega (arith, length-revised (converted_to q) t.movements); texts = omega arith };
  movements_counted = omega arith;
  texts_counted = sum_revised (λ (x : MovementRow). x.texts) (converted_to q) (λ x. omega arith) t.movements;
}

with_key : (k : Key) (t : Rows) → Grows t (with_end k t)
with_key k t = record {
  longer = record { accounts = omega (arith, length-revised (ended_with k) t.accounts); movements = omega arith; texts = omega arith };
  movements_counted = sum_revised (λ (x : AccountRow). x.movements) (ended_with k) (λ x. omega arith) t.accounts;
  texts_counted = omega arith;
}

grows_as : (m : Modality) (o : List ℕ) (t : Rows) (k : Kind) → Grows t (entered_as m o t k)
grows_as m o t Account = more_accounts (account_row (account_in o) (columns 52 77 o)) refl t
grows_as m o t Movement = more_movements (movement_row (movement_in m o) (columns 65 80 o)) refl t
grows_as m o t Text = more_texts (text_row (columns 5 42 o) (columns 43 80 o)) t
grows_as m o t EquivalentKind = converted (equivalent_in o) t
grows_as m o t AccountEnd = with_key (key_at 59 o) t
grows_as m o t FileEnd = stays t

grows_of : (m : Modality) (o : List ℕ) (t : Rows) (k : Option Kind) → Grows t (of_kind t (entered_as m o t) k)
grows_of m o t None = stays t
grows_of m o t (Some k) = grows_as m o t k

pub grows : (p : Progress) (o : List ℕ) (t : Rows) → Grows t (entered p o t)
unfolding entered
grows p o t = grows_of p.account.head.modality o t (kind_in o)

-- what tables hold, they hold
pub holds_is : (t t' : Tables) (rows : Rows) → Holds t t' rows → rows_in t' ≡ rows
holds_is t t' rows h = rw (h.accounts.front, h.movements.front, h.texts.front) refl

pub same_room : (t t' : Tables) (rows : Rows) → Holds t t' rows → room_in t' ≡ room_in t
same_room t t' rows h = rw (h.accounts.size, h.movements.size, h.texts.size) refl

pub then_holds : (t t' t'' : Tables) (rows rows' : Rows) → Holds t t' rows → Holds t' t'' rows' → Longer rows rows' → Holds t t'' rows'
then_holds t t' t'' rows rows' h h' g = record {
  accounts = onward _ _ _ _ _ _ _ h.accounts h'.accounts (omega (arith, h.accounts.many, h'.accounts.many, g.accounts));
  movements = onward _ _ _ _ _ _ _ h.movements h'.movements (omega (arith, h.movements.many, h'.movements.many, g.movements));
  texts = onward _ _ _ _ _ _ _ h.texts h'.texts (omega (arith, h.texts.many, h'.texts.many, g.texts));
  accounts_lent = h'.accounts_lent ∙ h.accounts_lent;
  movements_lent = h'.movements_lent ∙ h.movements_lent;
  texts_lent = h'.texts_lent ∙ h.texts_lent;
}

-- over tables that were emptied first
pub from_empty : (t t₀ t' : Tables) (rows : Rows) → Holds t t₀ no_rows → Holds t₀ t' rows → Holds t t' rows
from_empty t t₀ t' rows h h' = then_holds t t₀ t' no_rows rows h h' (record { accounts = omega arith; movements = omega arith; texts = omega arith })

-- so what a read over the emptied tables comes to is what it comes to over those that were given
pub come_to : (given emptied left : Tables) (all : List (List ℕ)) (e : Ending) (o : Outcome) → Holds given emptied no_rows → read_of (room_in emptied) all e ≡ o → Holds emptied left o.rows → (o.answer ≡ (read_of (room_in given) all e).answer) × Holds given left (read_of (room_in given) all e).rows × (o.left ≡ (read_of (room_in given) all e).left)
come_to given emptied left all e o h is holds =
    let whole = ap (λ room. read_of room all e) (sym (same_room given emptied _ h)) ∙ is in (
      sym (ap (λ (o : Outcome). o.answer) whole),
      subst (Holds given left) (sym (ap (λ (o : Outcome). o.rows) whole)) (from_empty given emptied left _ h holds),
      sym (ap (λ (o : Outcome). o.left) whole),
    )

-- a record that was drawn was the first one left
pub drew : (rs : List (List ℕ)) (e : Ending) (left : List (List ℕ)) (into filled : List ℕ) (d : Result Bool Fault) → d ≡ Ok true → Draws rs e into left filled d → rs ≡ filled ∷ left
drew rs e left into filled d is drawn = (record_drawn rs e left into filled true refl (subst (Draws rs e into left filled) is drawn)).0

-- the records left are read, from here, as all are from the start
pub record Midway (t₀ t : Tables) (p : Progress) (all left : List (List ℕ)) (e : Ending) : Type 0 where
  pub same : read_of (room_in t₀) all e ≡ outcome (room_in t₀) p (rows_in t) left e
  pub holds : Holds t₀ t (rows_in t)
  pub movements : movements_of (rows_in t).accounts ≤ p.taken
  pub texts : texts_of (rows_in t).movements ≤ p.taken

pub start : (t₀ t : Tables) (p : Progress) (all : List (List ℕ)) (e : Ending) → p ≡ at_start → Holds t₀ t no_rows → Midway t₀ t p all all e
start t₀ t p all e new h =
    let is = holds_is t₀ t no_rows h in
    record {
      same = ap₂ (λ q rows. outcome (room_in t₀) q rows all e) (sym new) (sym is);
      holds = subst (Holds t₀ t) (sym is) h;
      movements = omega (arith, ap (λ rows. movements_of rows.accounts) is);
      texts = omega (arith, ap (λ rows. texts_of rows.movements) is);
    }

module _ {t₀ t : Tables} {p : Progress} {all left : List (List ℕ)} {e : Ending} (m : Midway t₀ t p all left e) where
  -- at a record
  at : (o : List ℕ) (rest : List (List ℕ)) → left ≡ o ∷ rest → (x : Option ReadRefusal) → x ≡ stopping (room_in t) p (rows_in t) o → read_of (room_in t₀) all e ≡ unless_stopped x (rows_in t) rest (outcome (room_in t₀) (after p o) (entered p o (rows_in t)) rest e)
  at o rest is x h =
      m.same ∙ (ap (λ l. outcome (room_in t₀) p (rows_in t) l e) is
      ∙ ap (λ s. unless_stopped s (rows_in t) rest (outcome (room_in t₀) (after p o) (entered p o (rows_in t)) rest e)) (sym (h ∙ ap (λ room. stopping room p (rows_in t) o) (same_room t₀ t _ m.holds))))

  -- one record more
  pub more : (t' : Tables) (p' : Progress) (o : List ℕ) (rest : List (List ℕ)) → left ≡ o ∷ rest → None ≡ stopping (room_in t) p (rows_in t) o → Holds t t' (entered p o (rows_in t)) → p' ≡ after p o → p'.taken ≡ p.taken + 1 → Midway t₀ t' p' all rest e
  more t' p' o rest is go h on one =
      let now_in = holds_is t t' _ h in
      let g = grows p o (rows_in t) in
      record {
        same = at o rest is None go ∙ ap₂ (λ q rows. outcome (room_in t₀) q rows rest e) (sym on) (sym now_in);
        holds = subst (Holds t₀ t') (sym now_in) (then_holds t₀ t t' (rows_in t) _ m.holds h g.longer);
        movements = omega (arith, ap (λ rows. movements_of rows.accounts) now_in, g.movements_counted, m.movements, one);
        texts = omega (arith, ap (λ rows. texts_of rows.movements) now_in, g.texts_counted, m.texts, one);
      }

  -- stopped by a record: the tables hold what they held
  pub stopped : (t' : Tables) (o : List ℕ) (rest : List (List ℕ)) (x : ReadRefusal) → left ≡ o ∷ rest → Some x ≡ stopping (room_in t) p (rows_in t) o → Holds t t' (rows_in t) → (read_of (room_in t₀) all e ≡ record { answer = Err x; rows = rows_in t; left = rest }) × Holds t₀ t' (rows_in t)
  stopped t' o rest x is stop h = (at o rest is (Some x) stop, then_holds t₀ t t' (rows_in t) (rows_in t) m.holds h (stays (rows_in t)).longer)

  -- at the end of the carrier
  pub ended : left ≡ [] → read_of (room_in t₀) all e ≡ record { answer = at_end p (rows_in t) e; rows = rows_in t; left = [] }
  ended is = m.same ∙ ap (λ l. outcome (room_in t₀) p (rows_in t) l e) is
