-- The steps of an offer. Assumes nothing.
use Rattle.std.proofs.Common.{◌≡◌, ℕ, ◌+◌, ◌≤◌, Bool, true, false, cond, ltb, leb, List, length, Some, None, Option, refl, ap, ◌∙◌, subst, arith}
use Rattle.std.proofs.lemmas.Bool.{eq-eqb, le-leb, ltb-true, leb-true, and_parts}
use Rattle.fields.specs.declared.keys.Key.{Key}
use Rattle.fields.specs.declared.keys.Key.TheVariants.{Debit, Credit}
use Rattle.values.specs.Balances.{turned, counts_in_limit, stays_in_limit}
use Rattle.records.specs.Checks.{judged}
use Rattle.values.specs.declared.parts.Movement.{Movement as MovementNumbers}
use Rattle.values.specs.declared.parts.OpenAccount.{OpenAccount}
use Rattle.records.proofs.Holding.{movement_limits}
use Rattle.reading.specs.Kinds.{last_number}
use Rattle.reading.specs.Limits.{texts_of}
use Rattle.reading.specs.Offers.{first_bad, kind_in, checks, field_cause, cause_of}
use Rattle.reading.specs.Phases.{next, outside, inside, more_texts}
use Rattle.reading.specs.Taken.{kind_told, Tells, InLimits, account_with, account_after}
use Rattle.reading.specs.declared.entries.Entry.{Entry}
use Rattle.reading.specs.declared.entries.Entry.TheVariants as entry
use Rattle.reading.specs.declared.kinds.Kind.{Kind}
use Rattle.reading.specs.declared.kinds.Kind.TheVariants.{Account, Movement, Text, Equivalent, AccountEnd, FileEnd}
use Rattle.reading.specs.declared.phases.Phase.{Phase}
use Rattle.reading.specs.declared.phases.Phase.TheVariants.{Start, Between, Opened, Texts, Converted, Ended}
use Rattle.reading.specs.declared.refusals.Cause.TheVariants.{RecordLimit}

-- of 80 characters whose kind may follow, what is left to ask
module _ (phase after : Phase) (taken : ℕ) (a : OpenAccount) (o : List ℕ) (kind : Kind) (long : length o ≡ 80) (good : first_bad o 0 ≡ None) (is : kind_in o ≡ Some kind) (may : next phase kind ≡ Some after) where
  placed : cause_of phase taken a o ≡ cond (leb (taken + 1) (last_number kind)) (field_cause (judged (checks kind (texts_of phase) taken a) o)) (Some RecordLimit)
  placed = rw (eq-eqb (length o) 80 long, good, is, may) refl

  pub by_fields : taken + 1 ≤ last_number kind → cause_of phase taken a o ≡ field_cause (judged (checks kind (texts_of phase) taken a) o)
  by_fields h = placed ∙ rw (le-leb (taken + 1) (last_number kind) h) refl

pub numbered : (k : Kind) → last_number k ≤ 1000000
numbered Account = omega arith
numbered Movement = omega arith
numbered Text = omega arith
numbered Equivalent = omega arith
numbered AccountEnd = omega arith
numbered FileEnd = omega arith

-- no phase has more than five texts
few_more : (n : ℕ) (q : Phase) → more_texts n ≡ Some q → texts_of q ≤ 5
few_more n q h = go (ltb n 5) refl h
  where
    go : (b : Bool) → ltb n 5 ≡ b → cond b (Some (Texts (n + 1))) None ≡ Some q → texts_of q ≤ 5
    go true e k = let same : Texts (n + 1) ≡ q = cc in subst (λ p. texts_of p ≤ 5) same (omega (arith, ltb-true n 5 e))
    go false e k = absurd (let z : ◌≡◌ {A = ℕ} 0 1 = cc in omega arith)

is_plain : (p q : Phase) → Some p ≡ Some q → texts_of p ≤ 5 → texts_of q ≤ 5
is_plain p q h few = let same : p ≡ q = cc in subst (λ x. texts_of x ≤ 5) same few

never : {A : Type 0} (q : Phase) → None ≡ Some q → A
never q h = absurd (let z : ◌≡◌ {A = ℕ} 0 1 = cc in omega arith)

few_outside : (end : Option Phase) (k : Kind) (q : Phase) → (end ≡ Some q → texts_of q ≤ 5) → outside end k ≡ Some q → texts_of q ≤ 5
few_outside end Account q e h = is_plain Opened q h (omega arith)
few_outside end Movement q e h = never q h
few_outside end Text q e h = never q h
few_outside end Equivalent q e h = never q h
few_outside end AccountEnd q e h = never q h
few_outside end FileEnd q e h = e h

few_inside : (text equivalent : Option Phase) (k : Kind) (q : Phase) → (text ≡ Some q → texts_of q ≤ 5) → (equivalent ≡ Some q → texts_of q ≤ 5) → inside text equivalent k ≡ Some q → texts_of q ≤ 5
few_inside text equivalent Account q t e h = never q h
few_inside text equivalent Movement q t e h = is_plain (Texts 0) q h (omega arith)
few_inside text equivalent Text q t e h = t h
few_inside text equivalent Equivalent q t e h = e h
few_inside text equivalent AccountEnd q t e h = is_plain Between q h (omega arith)
few_inside text equivalent FileEnd q t e h = never q h

pub few : (p : Phase) (k : Kind) (q : Phase) → next p k ≡ Some q → texts_of q ≤ 5
few Start k q h = few_outside None k q (never q) h
few Between k q h = few_outside (Some Ended) k q (λ e. is_plain Ended q e (omega arith)) h
few Opened k q h = few_inside None None k q (never q) (never q) h
few (Texts n) k q h = few_inside (more_texts n) (Some Converted) k q (few_more n q) (λ e. is_plain Converted q e (omega arith)) h
few Converted k q h = few_inside None None k q (never q) (never q) h
few Ended k q h = never q h

-- an entry that passed its checks stays in the limits
pub in_limits : (a : OpenAccount) (o : List ℕ) (texts taken : ℕ) (e : Entry) → Tells a o e → None ≡ judged (checks (kind_told e) texts taken a) o → InLimits a e
in_limits a o texts taken (entry.Account head name) t h = tt
in_limits a o texts taken (entry.Movement m reference) t h =
    let l = movement_limits a o h in
    let is = t.0 in
    (ap (λ (x : MovementNumbers). counts_in_limit a x.key) is ∙ l.0, ap (λ (x : MovementNumbers). stays_in_limit a x.key x.amount) is ∙ l.1)
in_limits a o texts taken (entry.Text sequence one two) t h = tt
in_limits a o texts taken (entry.Equivalent equivalent) t h = tt
in_limits a o texts taken (entry.AccountEnd end) t h = tt
in_limits a o texts taken (entry.FileEnd records) t h = tt

-- the account that an entry leaves
pub account_is : (a : OpenAccount) (o : List ℕ) (e : Entry) → Tells a o e → account_with a e ≡ account_after a o (kind_told e)
account_is a o (entry.Account head name) t = rw t.0 refl
account_is a o (entry.Movement m reference) t = rw t.0 refl
account_is a o (entry.Text sequence one two) t = refl
account_is a o (entry.Equivalent equivalent) t = refl
account_is a o (entry.AccountEnd end) t = refl
account_is a o (entry.FileEnd records) t = refl

pub record Limits (a : OpenAccount) : Type 0 where
  pub debits : a.debits.count ≤ 99999
  pub debited : a.debits.total ≤ 99999999999999
  pub credits : a.credits.count ≤ 99999
  pub credited : a.credits.total ≤ 99999999999999

turned_limits : (a : OpenAccount) (k : Key) (n : ℕ) → Limits a → counts_in_limit a k ≡ true → stays_in_limit a k n ≡ true → Limits (turned a k n)
turned_limits a Debit n l c s =
    record { debits = omega (arith, ltb-true a.debits.count 99999 c); debited = leb-true (a.debits.total + n) 99999999999999 (and_parts _ _ s).0; credits = l.credits; credited = l.credited }
turned_limits a Credit n l c s =
    record { debits = l.debits; debited = l.debited; credits = omega (arith, ltb-true a.credits.count 99999 c); credited = leb-true (a.credits.total + n) 99999999999999 (and_parts _ _ s).0 }

pub with_limits : (a : OpenAccount) (e : Entry) → Limits a → InLimits a e → Limits (account_with a e)
with_limits a (entry.Account head name) l i = record { debits = omega arith; debited = omega arith; credits = omega arith; credited = omega arith }
with_limits a (entry.Movement m reference) l i = turned_limits a m.key m.amount l i.0 i.1
with_limits a (entry.Text sequence one two) l i = l
with_limits a (entry.Equivalent equivalent) l i = l
with_limits a (entry.AccountEnd end) l i = l
with_limits a (entry.FileEnd records) l i = l
