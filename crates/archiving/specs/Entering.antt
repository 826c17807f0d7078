-- How a record that was taken is entered in the tables. Assumes nothing.
use Rattle.std.specs.Prelude.{◌≡◌, ℕ, ◌+◌, cond, List, [], ◌∷◌, ◌++◌, length, Some, None, Ok, Err, Option, Result, nat_lt}
use Rattle.fields.specs.declared.keys.Key.{Key}
use Rattle.fields.specs.declared.modalities.Modality.{Modality}
use Rattle.values.specs.declared.parts.AccountHead.{AccountHead}
use Rattle.values.specs.declared.parts.Equivalent.{Equivalent}
use Rattle.values.specs.declared.parts.Movement.{Movement as MovementNumbers}
use Rattle.records.specs.Checks.{columns}
use Rattle.records.specs.Values.{key_at, account_in, movement_in, equivalent_in}
use Rattle.reading.specs.declared.entries.Entry.{Entry}
use Rattle.reading.specs.declared.entries.Entry.TheVariants as entry
use Rattle.reading.specs.declared.kinds.Kind.{Kind}
use Rattle.reading.specs.declared.kinds.Kind.TheVariants.{Account, Movement, Text, Equivalent as EquivalentKind, AccountEnd, FileEnd}
use Rattle.table.specs.Rows.{revised}
use Rattle.rows.specs.Kept.{Rows}
use Rattle.rows.specs.Tables.{Room}
use Rattle.rows.specs.declared.accounts.AccountRow.{AccountRow}
use Rattle.rows.specs.declared.movements.MovementRow.{MovementRow}
use Rattle.rows.specs.declared.tables.TableKind.{TableKind}
use Rattle.rows.specs.declared.tables.TableKind.TheVariants.{Accounts, Movements, Texts}
use Rattle.rows.specs.declared.texts.TextRow.{TextRow}

-- rows as they begin: an account has no movements and no final key yet, a movement no texts and no equivalent
abbrev pub account_row : AccountHead → List ℕ → AccountRow
account_row head name = record { head = head; name = name; movements = 0; final_key = None }

abbrev pub movement_row : MovementNumbers → List ℕ → MovementRow
movement_row movement reference = record { movement = movement; reference_2 = reference; texts = 0; equivalent = None }

abbrev pub text_row : List ℕ → List ℕ → TextRow
text_row first second = record { first = first; second = second }

-- what the records after it add to the last row
abbrev pub one_movement_more : AccountRow → AccountRow
one_movement_more a = record { head = a.head; name = a.name; movements = a.movements + 1; final_key = a.final_key }

abbrev pub ended_with : Key → AccountRow → AccountRow
ended_with key a = record { head = a.head; name = a.name; movements = a.movements; final_key = Some key }

abbrev pub one_text_more : MovementRow → MovementRow
one_text_more m = record { movement = m.movement; reference_2 = m.reference_2; texts = m.texts + 1; equivalent = m.equivalent }

abbrev pub converted_to : Equivalent → MovementRow → MovementRow
converted_to e m = record { movement = m.movement; reference_2 = m.reference_2; texts = m.texts; equivalent = Some e }

-- the rows after each kind of record
abbrev pub with_account : AccountRow → Rows → Rows
with_account a t = record { accounts = t.accounts ++ (a ∷ []); movements = t.movements; texts = t.texts }

abbrev pub with_movement : MovementRow → Rows → Rows
with_movement m t = record { accounts = revised one_movement_more t.accounts; movements = t.movements ++ (m ∷ []); texts = t.texts }

abbrev pub with_text : TextRow → Rows → Rows
with_text text t = record { accounts = t.accounts; movements = revised one_text_more t.movements; texts = t.texts ++ (text ∷ []) }

abbrev pub with_equivalent : Equivalent → Rows → Rows
with_equivalent e t = record { accounts = t.accounts; movements = revised (converted_to e) t.movements; texts = t.texts }

abbrev pub with_end : Key → Rows → Rows
with_end key t = record { accounts = revised (ended_with key) t.accounts; movements = t.movements; texts = t.texts }

-- a record of a kind in an account of a modality: its values stand in its columns
abbrev pub entered_as : Modality → List ℕ → Rows → Kind → Rows
entered_as m o t Account = with_account (account_row (account_in o) (columns 52 77 o)) t
entered_as m o t Movement = with_movement (movement_row (movement_in m o) (columns 65 80 o)) t
entered_as m o t Text = with_text (text_row (columns 5 42 o) (columns 43 80 o)) t
entered_as m o t EquivalentKind = with_equivalent (equivalent_in o) t
entered_as m o t AccountEnd = with_end (key_at 59 o) t
entered_as m o t FileEnd = t

-- the same for what a reading tells of a record
abbrev pub with_entry : Entry → Rows → Rows
with_entry (entry.Account head name) t = with_account (account_row head name.now) t
with_entry (entry.Movement movement reference) t = with_movement (movement_row movement reference.now) t
with_entry (entry.Text sequence first second) t = with_text (text_row first.now second.now) t
with_entry (entry.Equivalent equivalent) t = with_equivalent equivalent t
with_entry (entry.AccountEnd end) t = with_end end.last.key t
with_entry (entry.FileEnd records) t = t

-- the table that lacks a free row for a record of a kind, if one does
abbrev pub full : TableKind → ℕ → ℕ → Option TableKind
full table filled room = cond (nat_lt filled room) None (Some table)

abbrev pub lacking : Room → Rows → Kind → Option TableKind
lacking room t Account = full Accounts (length t.accounts) room.accounts
lacking room t Movement = full Movements (length t.movements) room.movements
lacking room t Text = full Texts (length t.texts) room.texts
lacking room t EquivalentKind = None
lacking room t AccountEnd = None
lacking room t FileEnd = None

-- a name, a reference and texts of their full width, as a reading lends them
abbrev pub Whole : Entry → Type 0
Whole (entry.Account head name) = length name.now ≡ 26
Whole (entry.Movement movement reference) = length reference.now ≡ 16
Whole (entry.Text sequence first second) = (length first.now ≡ 38) × (length second.now ≡ 38)
Whole (entry.Equivalent equivalent) = Unit {0}
Whole (entry.AccountEnd end) = Unit {0}
Whole (entry.FileEnd records) = Unit {0}

-- what is held after an answer: the one where it was granted, the other where it was refused
abbrev pub granted : {A T E : Type 0} → Result T E → A → A → A
granted (Ok _) one other = one
granted (Err _) one other = other
