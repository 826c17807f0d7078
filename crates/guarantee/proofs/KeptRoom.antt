-- Where there is a row for every record, no table is ever full. Assumes nothing.
use Rattle.std.proofs.Common.{◌≡◌, ℕ, suc, ◌+◌, ◌<◌, ◌≤◌, List, [], ◌∷◌, length, Some, None, Option, refl, ap, ◌∙◌, arith, length-append}
use Rattle.std.proofs.lemmas.Bool.{lt-ltb}
use Rattle.fields.specs.declared.modalities.Modality.{Modality}
use Rattle.media.specs.Endings.{Ending}
use Rattle.records.specs.Checks.{columns}
use Rattle.records.specs.Values.{key_at, account_in, movement_in, equivalent_in}
use Rattle.reading.specs.Offers.{kind_in}
use Rattle.reading.specs.Progress.{Progress, refused, after}
use Rattle.reading.specs.declared.kinds.Kind.{Kind}
use Rattle.reading.specs.declared.kinds.Kind.TheVariants.{Account, Movement, Text, Equivalent, AccountEnd, FileEnd}
use Rattle.table.proofs.Filling.{length-revised}
use Rattle.rows.specs.Kept.{Rows}
use Rattle.rows.specs.declared.tables.TableKind.{TableKind}
use Rattle.rows.specs.declared.tables.TableKind.TheVariants.{Accounts, Movements, Texts}
use Rattle.rows.specs.Tables.{Room}
use Rattle.archiving.specs.Entering.{account_row, movement_row, text_row, one_movement_more, one_text_more, converted_to, ended_with, entered_as, full, lacking}
use Rattle.archiving.specs.Reads.{of_kind, entered, crowded, unless_taken, stopping, at_end, unless_stopped, outcome}
use Rattle.guarantee.proofs.KeptChecks.{Accepted}
use Rattle.guarantee.proofs.KeptRows.{after_all, entered_all}

-- each table grows by at most one row
pub record Grows (t t' : Rows) : Type 0 where
  pub accounts : length t'.accounts ≤ length t.accounts + 1
  pub movements : length t'.movements ≤ length t.movements + 1
  pub texts : length t'.texts ≤ length t.texts + 1

stays : (t : Rows) → Grows t t
stays t = record { accounts = omega arith; movements = omega arith; texts = omega arith }

grows_as : (m : Modality) (o : List ℕ) (t : Rows) (k : Kind) → Grows t (entered_as m o t k)
grows_as m o t Account = record { accounts = omega (arith, length-append t.accounts (account_row (account_in o) (columns 52 77 o) ∷ [])); movements = omega arith; texts = omega arith }
grows_as m o t Movement = record {
  accounts = omega (arith, length-revised one_movement_more t.accounts);
  movements = omega (arith, length-append t.movements (movement_row (movement_in m o) (columns 65 80 o) ∷ []));
  texts = omega arith;
}
grows_as m o t Text = record {
  accounts = omega arith;
  movements = omega (arith, length-revised one_text_more t.movements);
  texts = omega (arith, length-append t.texts (text_row (columns 5 42 o) (columns 43 80 o) ∷ []));
}
grows_as m o t Equivalent = record { accounts = omega arith; movements = omega (arith, length-revised (converted_to (equivalent_in o)) t.movements); texts = omega arith }
grows_as m o t AccountEnd = record { accounts = omega (arith, length-revised (ended_with (key_at 59 o)) t.accounts); movements = omega arith; texts = omega arith }
grows_as m o t FileEnd = stays t

pub grows : (p : Progress) (o : List ℕ) (t : Rows) → Grows t (entered p o t)
unfolding entered
grows p o t = go (kind_in o)
  where
    go : (k : Option Kind) → Grows t (of_kind t (entered_as p.account.head.modality o t) k)
    go None = stays t
    go (Some k) = grows_as p.account.head.modality o t k

-- a table with a free row takes a record
not_full : (table : TableKind) (filled room : ℕ) → filled < room → full table filled room ≡ None
not_full table filled room h = rw (lt-ltb filled room h) refl

-- room for so many records behind rows
pub record RoomFor (room : Room) (t : Rows) (n : ℕ) : Type 0 where
  pub accounts : length t.accounts + n ≤ room.accounts
  pub movements : length t.movements + n ≤ room.movements
  pub texts : length t.texts + n ≤ room.texts

none_lacking : (room : Room) (t : Rows) (k : Kind) → RoomFor room t 1 → lacking room t k ≡ None
none_lacking room t Account h = not_full Accounts (length t.accounts) room.accounts (omega arith)
none_lacking room t Movement h = not_full Movements (length t.movements) room.movements (omega arith)
none_lacking room t Text h = not_full Texts (length t.texts) room.texts (omega arith)
none_lacking room t Equivalent h = refl
none_lacking room t AccountEnd h = refl
none_lacking room t FileEnd h = refl

pub not_crowded : (room : Room) (t : Rows) (o : List ℕ) → RoomFor room t 1 → crowded room t o ≡ None
unfolding crowded
not_crowded room t o h = go (kind_in o)
  where
    go : (k : Option Kind) → of_kind None (lacking room t) k ≡ None
    go None = refl
    go (Some k) = none_lacking room t k h

pub room_left : (room : Room) (p : Progress) (o : List ℕ) (t : Rows) (n : ℕ) → RoomFor room t (suc n) → RoomFor room (entered p o t) n
room_left room p o t n h =
    let g = grows p o t in
    record { accounts = omega (arith, g.accounts, h.accounts); movements = omega (arith, g.movements, h.movements); texts = omega (arith, g.texts, h.texts) }

-- records that a reading takes, with room for each, are all entered
pub not_stopped : (room : Room) (p : Progress) (t : Rows) (o : List ℕ) → refused p o ≡ None → crowded room t o ≡ None → stopping room p t o ≡ None
unfolding stopping
not_stopped room p t o taken free = ap (λ x. unless_taken (p.taken + 1) x (crowded room t o)) taken ∙ ap (unless_taken (p.taken + 1) None) free

pub all_entered : (room : Room) (p : Progress) (t : Rows) (rs : List (List ℕ)) (e : Ending) → Accepted p rs → RoomFor room t (length rs) → outcome room p t rs e ≡ record { answer = at_end (after_all p rs) (entered_all p t rs) e; rows = entered_all p t rs; left = [] }
all_entered room p t [] e taken h = refl
all_entered room p t (o ∷ rs) e taken h =
    let one : RoomFor room t 1 = record { accounts = omega (arith, h.accounts); movements = omega (arith, h.movements); texts = omega (arith, h.texts) } in
    ap (λ x. unless_stopped x t rs (outcome room (after p o) (entered p o t) rs e)) (not_stopped room p t o taken.0 (not_crowded room t o one))
    ∙ all_entered room (after p o) (entered p o t) rs e taken.1 (room_left room p o t (length rs) h)
