-- The records that are still to come while a statement is composed. Assumes nothing.
use Rattle.std.specs.Prelude.{ℕ, List, ◌∷◌, ◌++◌, drop, map, Some, None, Option, Result}
use Rattle.composing.specs.Layouts.{account_end_layout}
use Rattle.composing.specs.Parts.{Part, composed}
use Rattle.composing.specs.declared.refusals.Unfit.{Unfit}
use Rattle.rows.specs.Kept.{texts_of}
use Rattle.rows.specs.declared.accounts.AccountRow.{AccountRow}
use Rattle.rows.specs.declared.movements.MovementRow.{MovementRow}
use Rattle.rows.specs.declared.texts.TextRow.{TextRow}
use Rattle.recalling.specs.Statements.{text_records, equivalent_records, movements_records, close_of, accounts_records}
use Rattle.recalling.specs.declared.attachments.Attachments.{Attachments}
use Rattle.recalling.specs.declared.compositions.Begun.{Begun}
use Rattle.recalling.specs.declared.compositions.Composition.{Composition}

-- the texts and the equivalent of a movement that has begun
abbrev pub attached : Attachments → List (List Part)
attached a = text_records a.came a.texts.now ++ equivalent_records a.equivalent

-- the movements left of an account that has begun, its end, and the accounts after it; without one, the next accounts
abbrev pub behind : List AccountRow → List MovementRow → List TextRow → Option Begun → List (List Part)
behind accounts movements texts None = accounts_records accounts movements texts
behind accounts movements texts (Some b) =
    movements_records b.left.now texts ++ (account_end_layout (close_of b.row.now b.own.now) ∷ accounts_records accounts movements (drop (texts_of b.left.now) texts))

unfoldable pub remaining : Composition → List (List Part)
remaining c = attached c.attached ++ behind c.accounts.now c.movements.now c.texts.now c.begun

-- what both iterators have left to yield: each layout composed
abbrev pub attached_left : Attachments → List (Result (List ℕ) Unfit)
attached_left a = map composed (attached a)

abbrev pub left : Composition → List (Result (List ℕ) Unfit)
left c = map composed (remaining c)
