-- The ways from phase to phase. Assumes nothing.
use Rattle.std.proofs.Common.{◌≡◌, ℕ, ◌+◌, ◌<◌, Bool, true, false, cond, ltb, Some, None, refl, subst, arith}
use Rattle.std.proofs.lemmas.Bool.{ltb-true}
use Rattle.reading.specs.Phases.{next, inside, more_texts}
use Rattle.reading.specs.declared.kinds.Kind.{Kind}
use Rattle.reading.specs.declared.kinds.Kind.TheVariants as kind
use Rattle.reading.specs.declared.phases.Phase.{Phase}
use Rattle.reading.specs.declared.phases.Phase.TheVariants.{Start, Between, Opened, Texts, Converted, Ended}

-- the phases in an account
abbrev pub Inside : Phase → Type 0
Inside Start = ⊥
Inside Between = ⊥
Inside Opened = Unit {0}
Inside (Texts k) = Unit {0}
Inside Converted = Unit {0}
Inside Ended = ⊥

-- a movement and the account's end may come in each of them
pub inside_movement : (phase : Phase) → Inside phase → next phase kind.Movement ≡ Some (Texts 0)
inside_movement Start i = absurd i
inside_movement Between i = absurd i
inside_movement Opened i = refl
inside_movement (Texts k) i = refl
inside_movement Converted i = refl
inside_movement Ended i = absurd i

pub inside_end : (phase : Phase) → Inside phase → next phase kind.AccountEnd ≡ Some Between
inside_end Start i = absurd i
inside_end Between i = absurd i
inside_end Opened i = refl
inside_end (Texts k) i = refl
inside_end Converted i = refl
inside_end Ended i = absurd i

-- the kinds that may come, and where they lead
pub data Way : Phase → Kind → Phase → Type 0 where
  first_account : Way Start kind.Account Opened
  one_more_account : Way Between kind.Account Opened
  file_end : Way Between kind.FileEnd Ended
  movement : {phase : Phase} → Inside phase → Way phase kind.Movement (Texts 0)
  text : {k : ℕ} → k < 5 → Way (Texts k) kind.Text (Texts (k + 1))
  equivalent : {k : ℕ} → Way (Texts k) kind.Equivalent Converted
  account_end : {phase : Phase} → Inside phase → Way phase kind.AccountEnd Between

never : {A X : Type 0} {x : X} → None ≡ Some x → A
never h = absurd (let z : ◌≡◌ {A = ℕ} 0 1 = cc in omega arith)

arriving : {phase : Phase} {k : Kind} {q r : Phase} → Way phase k q → Some q ≡ Some r → Way phase k r
arriving {phase} {k} {q} {r} w h = let same : q ≡ r = cc in subst (Way phase k) same w

text_way : (k : ℕ) (q : Phase) → more_texts k ≡ Some q → Way (Texts k) kind.Text q
text_way k q h = go (ltb k 5) refl h
  where
    go : (b : Bool) → ltb k 5 ≡ b → cond b (Some (Texts (k + 1))) None ≡ Some q → Way (Texts k) kind.Text q
    go true e h = arriving (text (ltb-true k 5 e)) h
    go false e h = never h

plain_way : (phase : Phase) → Inside phase → (k : Kind) (q : Phase) → inside None None k ≡ Some q → Way phase k q
plain_way phase i kind.Account q h = never h
plain_way phase i kind.Movement q h = arriving (movement i) h
plain_way phase i kind.Text q h = never h
plain_way phase i kind.Equivalent q h = never h
plain_way phase i kind.AccountEnd q h = arriving (account_end i) h
plain_way phase i kind.FileEnd q h = never h

pub way : (phase : Phase) (k : Kind) (q : Phase) → next phase k ≡ Some q → Way phase k q
way Start kind.Account q h = arriving first_account h
way Start kind.Movement q h = never h
way Start kind.Text q h = never h
way Start kind.Equivalent q h = never h
way Start kind.AccountEnd q h = never h
way Start kind.FileEnd q h = never h
way Between kind.Account q h = arriving one_more_account h
way Between kind.Movement q h = never h
way Between kind.Text q h = never h
way Between kind.Equivalent q h = never h
way Between kind.AccountEnd q h = never h
way Between kind.FileEnd q h = arriving file_end h
way Opened k q h = plain_way Opened tt k q h
way (Texts n) kind.Account q h = never h
way (Texts n) kind.Movement q h = arriving (movement tt) h
way (Texts n) kind.Text q h = text_way n q h
way (Texts n) kind.Equivalent q h = arriving equivalent h
way (Texts n) kind.AccountEnd q h = arriving (account_end tt) h
way (Texts n) kind.FileEnd q h = never h
way Converted k q h = plain_way Converted tt k q h
way Ended k q h = never h
