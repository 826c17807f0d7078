-- A record is taken just if it is right where it stands. Assumes nothing.
use Rattle.std.proofs.Common.{◌≡◌, ℕ, ◌+◌, ◌≤◌, Bool, true, false, cond, eqb, leb, List, length, Some, None, Option, refl, ap, ◌∙◌, arith}
use Rattle.std.proofs.lemmas.Bool.{eqb-true, leb-true}
use Rattle.values.specs.declared.parts.OpenAccount.{OpenAccount}
use Rattle.records.specs.Checks.{judged}
use Rattle.records.specs.declared.refusals.FieldRefusal.{FieldRefusal}
use Rattle.reading.specs.Kinds.{last_number}
use Rattle.reading.specs.Limits.{texts_of}
use Rattle.reading.specs.Offers.{first_bad, kind_in, checks, field_cause, placed_cause, kind_cause, character_cause, cause_of}
use Rattle.reading.specs.Phases.{next}
use Rattle.reading.specs.declared.kinds.Kind.{Kind}
use Rattle.reading.specs.declared.phases.Phase.{Phase}
use Rattle.reading.specs.declared.refusals.Cause.TheVariants.{Length, RecordLimit}
use Rattle.reading.proofs.Steps.{by_fields}
use Rattle.edition.proofs.Right.{Right}

-- its kind may follow, its number is in the limit, and it passes its checks
pub record Fitting (phase : Phase) (taken : ℕ) (a : OpenAccount) (o : List ℕ) : Type 0 where
  pub kind : Kind
  pub after : Phase
  pub may : next phase kind ≡ Some after
  pub numbered : taken + 1 ≤ last_number kind
  pub fields : Right kind (checks kind (texts_of phase) taken a) o

never : {A X : Type 0} {x : X} → Some x ≡ None → A
never h = absurd (let z : ◌≡◌ {A = ℕ} 0 1 = cc in omega arith)

module _ (phase : Phase) (taken : ℕ) (a : OpenAccount) (o : List ℕ) where
  pub none_refused : Fitting phase taken a o → cause_of phase taken a o ≡ None
  none_refused f =
      let r = f.fields in
      by_fields phase f.after taken a o f.kind r.long r.good r.is f.may f.numbered ∙ ap field_cause r.passed

  module _ (long : length o ≡ 80) (good : first_bad o 0 ≡ None) where
    at_kind : (kind : Kind) → kind_in o ≡ Some kind → (x : Option Phase) → next phase kind ≡ x → placed_cause phase taken a o kind x ≡ None → Fitting phase taken a o
    at_kind kind is None may h = never h
    at_kind kind is (Some after) may h = limited (leb (taken + 1) (last_number kind)) refl h
      where
        asked : (x : Option FieldRefusal) → judged (checks kind (texts_of phase) taken a) o ≡ x → leb (taken + 1) (last_number kind) ≡ true → field_cause x ≡ None → Fitting phase taken a o
        asked None e l k = record { kind = kind; after = after; may = may; numbered = leb-true (taken + 1) (last_number kind) l; fields = record { long = long; good = good; is = is; passed = e } }
        asked (Some refusal) e l k = never k

        limited : (b : Bool) → leb (taken + 1) (last_number kind) ≡ b → cond b (field_cause (judged (checks kind (texts_of phase) taken a) o)) (Some RecordLimit) ≡ None → Fitting phase taken a o
        limited true l k = asked (judged (checks kind (texts_of phase) taken a) o) refl l k
        limited false l k = never k

    of_kind : (x : Option Kind) → kind_in o ≡ x → kind_cause phase taken a o x ≡ None → Fitting phase taken a o
    of_kind None is h = never h
    of_kind (Some kind) is h = at_kind kind is (next phase kind) refl h

  of_characters : length o ≡ 80 → (x : Option ℕ) → first_bad o 0 ≡ x → character_cause phase taken a o x ≡ None → Fitting phase taken a o
  of_characters long None good h = of_kind long good (kind_in o) refl h
  of_characters long (Some i) good h = never h

  pub fitting : cause_of phase taken a o ≡ None → Fitting phase taken a o
  fitting h = go (eqb (length o) 80) refl h
    where
      go : (b : Bool) → eqb (length o) 80 ≡ b → cond b (character_cause phase taken a o (first_bad o 0)) (Some Length) ≡ None → Fitting phase taken a o
      go true l k = of_characters (eqb-true (length o) 80 l) (first_bad o 0) refl k
      go false l k = never k
