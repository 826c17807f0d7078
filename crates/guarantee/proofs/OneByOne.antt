-- The movements of a correct account, one by one. Assumes nothing.
use Rattle.std.proofs.Common.{◌≡◌, ℕ, List, [], ◌∷◌, sym, refl, subst, arith}
use Rattle.std.specs.List.{AllByRecursion}
use Rattle.fields.specs.declared.keys.Key.{Key}
use Rattle.fields.specs.declared.keys.Key.TheVariants.{Debit, Credit}
use Rattle.values.specs.Balances.{turned}
use Rattle.values.specs.declared.parts.OpenAccount.{OpenAccount}
use Rattle.records.specs.Values.{key_at, number_at}
use Rattle.edition.proofs.Closing.{Closable, turned_closable}
use Rattle.guarantee.specs.Files.{Movement, CorrectMovement}
use Rattle.guarantee.proofs.Keeping.{movement_passes}
use Rattle.guarantee.proofs.ToCome.{Details, Movements}
use Rattle.guarantee.proofs.Turning.{turned_by, Within, within_none, within_one, within_more}

turned_head : (a : OpenAccount) (k : Key) (n : ℕ) → a.head ≡ (turned a k n).head
turned_head a Debit n = refl
turned_head a Credit n = refl

-- movements that are correct and within the limits are so one by one, and back
pub one_by_one : (a : OpenAccount) (ms : List Movement) → AllByRecursion (CorrectMovement a.head) ms → Within a ms → Movements a ms
one_by_one a [] c w = tt
one_by_one a (m ∷ ms) c w =
    let l = within_one a m ms w in
    let same = turned_head a (key_at 28 m.main) (number_at 29 42 m.main) in
    let main = c.0.main in (
      record { characters = main.characters; code = main.code; fields = (movement_passes m.main a).1 (l.0, main.fields) },
      subst (λ h. Details h 0 m.texts m.equivalent) same (record { texts = c.0.texts; few = omega (arith, c.0.few); equivalent = c.0.equivalent }),
      one_by_one (turned_by a m.main) ms (subst (λ h. AllByRecursion (CorrectMovement h) ms) same c.1) l.1,
    )

pub all_together : (a : OpenAccount) (ms : List Movement) → Closable a → Movements a ms → AllByRecursion (CorrectMovement a.head) ms × Within a ms
all_together a [] c s = (tt, within_none a c.limits)
all_together a (m ∷ ms) c s =
    let p = (movement_passes m.main a).0 s.0.fields in
    let same = sym (turned_head a (key_at 28 m.main) (number_at 29 42 m.main)) in
    let d = subst (λ h. Details h 0 m.texts m.equivalent) same s.1 in
    let more = all_together (turned_by a m.main) ms (turned_closable a (key_at 28 m.main) (number_at 29 42 m.main) c p.0.0 p.0.1) s.2 in (
      (
        record { main = record { characters = s.0.characters; code = s.0.code; fields = p.1 }; texts = d.texts; few = omega (arith, d.few); equivalent = d.equivalent },
        subst (λ h. AllByRecursion (CorrectMovement h) ms) same more.0,
      ),
      within_more a m ms p.0 more.1,
    )
