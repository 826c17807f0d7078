-- Keys and modalities that digits spell. Assumes nothing.
use Rattle.std.proofs.Common.{◌≡◌, ℕ, Bool, true, false, cond, eqb, List, Some, None, Ok, Err, Result, IsErrAnd, MatchResult, is_some, inr, ⊎_elim, sym, subst, ap, arith}
use Rattle.fields.specs.Keys.{key_of, IsKeyOf}
use Rattle.fields.specs.Modalities.{modality_of, IsModalityOf}
use Rattle.std.specs.Result.{result_err}
use Rattle.records.specs.Checks.{judged, asked, digits, key, is_key, modality, is_modality}
use Rattle.records.proofs.Judging.{stop, right, wrong, chain}
use Rattle.records.specs.Marks.{IsMark}
use Rattle.records.specs.Values.{number_at, key_at, modality_at}
use Rattle.records.specs.declared.refusals.FieldRefusal.{FieldRefusal}
use Rattle.records.specs.declared.refusals.Question.TheVariants.{Value}
use Rattle.fields.specs.declared.keys.Key.{Key}
use Rattle.fields.specs.declared.keys.Key.TheVariants.{Debit, Credit}
use Rattle.fields.specs.declared.modalities.Modality.{Modality}
use Rattle.fields.specs.declared.modalities.Modality.TheVariants.{First, Second, Third}

pub marked : {T E : Type 0} (gives : ℕ → Result T E → Type 0) (a b : ℕ) (r : List ℕ) (n : ℕ) (t : Result T E) (Q : E → FieldRefusal → Type 0) (answer : Result T FieldRefusal) → None ≡ judged (digits a b) r → n ≡ number_at a b r → gives n t → MatchResult t (λ x. answer ≡ Ok x) (λ x. IsErrAnd answer (Q x)) → ((x : E) (e : FieldRefusal) → Q x e → e ≡ record { question = Value; column = a }) → IsMark gives a b r answer
marked gives a b r n (Ok x) Q answer form is given says by = subst (IsMark gives a b r) (sym says) (record { told = (form, subst (λ k. gives k (Ok x)) is given) })
marked gives a b r n (Err x) Q (Ok y) form is given says by = absurd says
marked gives a b r n (Err x) Q (Err e) form is given says by = record { told = inr (form, by x e says, (x, subst (λ k. gives k (Err x)) is given)) }

key_from : (n : ℕ) (k : Key) → key_of n ≡ Some k → k ≡ cond (eqb n 1) Debit Credit
key_from n k h = go (eqb n 1) (eqb n 2) h
  where
    go : (a b : Bool) → cond a (Some Debit) (cond b (Some Credit) None) ≡ Some k → k ≡ cond a Debit Credit
    go true b e = cc
    go false true e = cc
    go false false e = absurd (let z : ◌≡◌ {A = ℕ} 0 1 = cc in omega arith)

modality_from : (n : ℕ) (m : Modality) → modality_of n ≡ Some m → m ≡ cond (eqb n 1) First (cond (eqb n 2) Second Third)
modality_from n m h = go (eqb n 1) (eqb n 2) (eqb n 3) h
  where
    go : (a b c : Bool) → cond a (Some First) (cond b (Some Second) (cond c (Some Third) None)) ≡ Some m → m ≡ cond a First (cond b Second Third)
    go true b c e = cc
    go false true c e = cc
    go false false true e = cc
    go false false false e = absurd (let z : ◌≡◌ {A = ℕ} 0 1 = cc in omega arith)

-- a key and a modality by their checks, and what they are
key_answer : (a : ℕ) (r : List ℕ) (answer : Result Key FieldRefusal) → IsMark IsKeyOf a a r answer → result_err answer ≡ judged (key a) r
unfolding key is_key
key_answer a r (Ok k) m = right a a is_key r m.told.0 (ap is_some (sym m.told.1.value))
key_answer a r (Err e) m =
    ⊎_elim
    (λ form. stop (digits a a) (asked Value a a is_key) r e form)
    (λ other. wrong a a is_key r other.0 e other.1 (ap is_some (sym other.2.1.value)))
    m.told

modality_answer : (a : ℕ) (r : List ℕ) (answer : Result Modality FieldRefusal) → IsMark IsModalityOf a a r answer → result_err answer ≡ judged (modality a) r
unfolding modality is_modality
modality_answer a r (Ok k) m = right a a is_modality r m.told.0 (ap is_some (sym m.told.1.value))
modality_answer a r (Err e) m =
    ⊎_elim
    (λ form. stop (digits a a) (asked Value a a is_modality) r e form)
    (λ other. wrong a a is_modality r other.0 e other.1 (ap is_some (sym other.2.1.value)))
    m.told

pub key_judged : {a : ℕ} {r : List ℕ} {answer : Result Key FieldRefusal} → IsMark IsKeyOf a a r answer → result_err answer ≡ judged (key a) r
key_judged {a} {r} {answer} m = key_answer a r answer m

pub key_told : {a : ℕ} {r : List ℕ} {k : Key} → IsMark IsKeyOf a a r (Ok k) → k ≡ key_at a r
key_told {a} {r} {k} m = key_from (number_at a a r) k (sym m.told.1.value)

pub modality_judged : {a : ℕ} {r : List ℕ} {answer : Result Modality FieldRefusal} → IsMark IsModalityOf a a r answer → result_err answer ≡ judged (modality a) r
modality_judged {a} {r} {answer} m = modality_answer a r answer m

pub modality_told : {a : ℕ} {r : List ℕ} {m : Modality} → IsMark IsModalityOf a a r (Ok m) → m ≡ modality_at a r
modality_told {a} {r} {m} h = modality_from (number_at a a r) m (sym h.told.1.value)

pub ruleset marks = (chain, key_judged, key_told, modality_judged, modality_told)
