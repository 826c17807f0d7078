-- Checks one after the other. Assumes nothing.
use Rattle.std.proofs.Common.{◌≡◌, ℕ, ◌-◌, ◌^◌, ◌<◌, ◌≤◌, Bool, true, false, cond, List, [], ◌∷◌, ◌++◌, length, drop, is_err, Some, None, Ok, Err, Option, Result, IfOk, sym, refl, ap, subst, ◌∙◌, arith, length-drop, length-take}
use Rattle.std.specs.Option.{ok_or}
use Rattle.std.specs.Result.{result_err}
use Rattle.std.proofs.lemmas.Bool.{both_ways}
use Rattle.fields.specs.Decimal.{all_digits, value, number}
use Rattle.fields.proofs.Decimal.{number_short, number_some, number_below}
use Rattle.records.specs.Checks.{Check, columns, failed, judged, tested, asked, digits}
use Rattle.records.specs.declared.refusals.FieldRefusal.{FieldRefusal}
use Rattle.records.specs.declared.refusals.Question.{Question}
use Rattle.records.specs.declared.refusals.Question.TheVariants.{Form, Value}

unfoldable pub first : Option FieldRefusal → Option FieldRefusal → Option FieldRefusal
first None o = o
first (Some e) o = Some e

-- checks that all hold leave the answer to those after them, and one that fails gives it
pub both : (us vs : List Check) (r : List ℕ) → judged (us ++ vs) r ≡ first (judged us r) (judged vs r)
unfolding judged first
both [] vs r = refl
both (u ∷ us) vs r = go (u.holds r) (both us vs r)
  where
    go : (b : Bool) → judged (us ++ vs) r ≡ first (judged us r) (judged vs r) → cond b (judged (us ++ vs) r) (Some (failed u)) ≡ first (cond b (judged us r) (Some (failed u))) (judged vs r)
    go true h = h
    go false h = refl

pub stop : (us vs : List Check) (r : List ℕ) (e : FieldRefusal) → Some e ≡ judged us r → Some e ≡ judged (us ++ vs) r
unfolding first
stop us vs r e h = sym (both us vs r ∙ ap (λ o. first o (judged vs r)) (sym h))

pub pass : (us vs : List Check) (r : List ℕ) (o : Option FieldRefusal) → None ≡ judged us r → o ≡ judged vs r → o ≡ judged (us ++ vs) r
unfolding first
pass us vs r o h k = k ∙ sym (both us vs r ∙ ap (λ o. first o (judged vs r)) (sym h))

-- the same where a function goes on with another's refusal
pub stop_at : {T : Type 0} (us vs : List Check) (r : List ℕ) (answer : Result T FieldRefusal) → is_err answer ≡ true → result_err answer ≡ judged us r → result_err answer ≡ judged (us ++ vs) r
stop_at us vs r (Ok x) h k = absurd (both_ways false refl h)
stop_at us vs r (Err e) h k = stop us vs r e k

pub columns_long : (a b : ℕ) (r : List ℕ) → length r ≡ 80 → b ≤ 80 → length (columns a b r) ≡ b - (a - 1)
columns_long a b r l h = omega (arith, length-take (b - (a - 1)) (drop (a - 1) r), length-drop (a - 1) r)

-- short fields that spell no number are not all digits
pub no_number : (bs : List ℕ) → length bs ≤ 19 → number bs ≡ None → all_digits bs ≡ false
no_number bs l h = go (all_digits bs) (sym h ∙ number_short bs l)
  where
    go : (b : Bool) → None ≡ cond b (Some (value bs)) None → b ≡ false
    go true k = absurd (let z : ◌≡◌ {A = ℕ} 0 1 = cc in omega arith)
    go false k = refl

pub holds : (q : Question) (a b : ℕ) (test : List ℕ → Bool) (r : List ℕ) → test (columns a b r) ≡ true → None ≡ judged (asked q a b test) r
unfolding judged tested
holds q a b test r h = rw h refl

pub fails : (q : Question) (a b : ℕ) (test : List ℕ → Bool) (r : List ℕ) (e : FieldRefusal) → e ≡ record { question = q; column = a } → test (columns a b r) ≡ false → Some e ≡ judged (asked q a b test) r
unfolding judged tested
fails q a b test r e is h = rw (h, is) refl

-- what reading a short field as a number tells
abbrev pub IsRead : ℕ → ℕ → List ℕ → Result ℕ FieldRefusal → Type 0
IsRead a b r answer = (result_err answer ≡ judged (digits a b) r) × IfOk answer (λ n. n ≡ value (columns a b r)) × IfOk answer (λ n. n < 10 ^ (b - (a - 1)))

pub read : (a b : ℕ) (r : List ℕ) (o : Option ℕ) (e : FieldRefusal) → o ≡ number (columns a b r) → e ≡ record { question = Form; column = a } → length (columns a b r) ≡ b - (a - 1) → b - (a - 1) ≤ 19 → IsRead a b r (ok_or o e)
unfolding digits
read a b r None e says is long short = (fails Form a b all_digits r e is (no_number (columns a b r) (omega arith) (sym says)), tt, tt)
read a b r (Some n) e says is long short =
    let spelled = number_some (columns a b r) n (sym says) in
    (holds Form a b all_digits r spelled.0, sym spelled.1, subst (λ w. n < 10 ^ w) long (number_below (columns a b r) n (sym says)))

-- one question, asked by a test of the record
pub answers : {T : Type 0} (q : Question) (a b : ℕ) (test : List ℕ → Bool) (r : List ℕ) (h : Bool) (answer : Result T FieldRefusal) → result_err answer ≡ cond h None (Some (record { question = q; column = a })) → h ≡ test r → result_err answer ≡ judged (tested q a b test) r
unfolding judged tested
answers q a b test r h answer e same = e ∙ rw same refl

pub yes : (q : Question) (a b : ℕ) (test : List ℕ → Bool) (r : List ℕ) (h : Bool) (e : FieldRefusal) → None ≡ cond h None (Some e) → h ≡ test r → None ≡ judged (tested q a b test) r
unfolding judged tested
yes q a b test r true e k same = rw (sym same) refl
yes q a b test r false e k same = absurd (let z : ◌≡◌ {A = ℕ} 0 1 = cc in omega arith)

pub ruleset chain = (stop_at, pass, answers, yes)

-- a number that is right by itself, and one that is not
module _ (a b : ℕ) (test : List ℕ → Bool) (r : List ℕ) (digital : None ≡ judged (digits a b) r) where
  pub right : test (columns a b r) ≡ true → None ≡ judged (digits a b ++ asked Value a b test) r
  right h = pass (digits a b) (asked Value a b test) r None digital (holds Value a b test r h)

  pub wrong : (e : FieldRefusal) → e ≡ record { question = Value; column = a } → test (columns a b r) ≡ false → Some e ≡ judged (digits a b ++ asked Value a b test) r
  wrong e is h = pass (digits a b) (asked Value a b test) r (Some e) digital (fails Value a b test r e is h)
