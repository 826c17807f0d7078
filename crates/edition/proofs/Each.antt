-- A record passes its checks just if each of them holds. Assumes nothing.
use Rattle.std.proofs.Common.{◌≡◌, ℕ, zero, suc, true, List, [], ◌∷◌, drop, None, sym, refl}
use Rattle.std.specs.List.{AllByRecursion}
use Rattle.std.proofs.ByRecursion.{All-drop}
use Rattle.records.specs.Checks.{Check, judged, tested}
use Rattle.records.proofs.Holding.{split, held}

abbrev pub Passed : List Check → List ℕ → Type 0
Passed cs r = AllByRecursion (λ c. c.holds r ≡ true) cs

pub each_holds : (cs : List Check) (r : List ℕ) → judged cs r ≡ None → Passed cs r
unfolding tested
each_holds [] r h = tt
each_holds (c ∷ cs) r h =
    let p = split (c ∷ []) cs r (sym h) in
    (held c.question c.from c.to c.holds r p.0, each_holds cs r (sym p.1))

pub all_hold : (cs : List Check) (r : List ℕ) → Passed cs r → judged cs r ≡ None
unfolding judged
all_hold [] r h = refl
all_hold (c ∷ cs) r h = rw h.0 (all_hold cs r h.1)

-- such facts one behind the other
pub also : {P Q : Type 0} → P → Q → P × Q
also p q = (p, q)

pub also_both : {P Q R : Type 0} → P × Q → R → P × (Q × R)
also_both p r = (p.0, (p.1, r))

-- of checks that are passed, those behind the first k, and the k-th alone, counted from 0
pub behind : (cs : List Check) (r : List ℕ) → judged cs r ≡ None → (k : ℕ) → judged (drop k cs) r ≡ None
behind cs r h k = all_hold (drop k cs) r (All-drop (λ c. c.holds r ≡ true) k cs (each_holds cs r h))

abbrev pub HoldsAt : ℕ → List Check → List ℕ → Type 0
HoldsAt k [] r = Unit {0}
HoldsAt zero (c ∷ cs) r = c.holds r ≡ true
HoldsAt (suc k) (c ∷ cs) r = HoldsAt k cs r

one_holds : (k : ℕ) (cs : List Check) (r : List ℕ) → Passed cs r → HoldsAt k cs r
one_holds zero [] r h = tt
one_holds (suc k) [] r h = tt
one_holds zero (c ∷ cs) r h = h.0
one_holds (suc k) (c ∷ cs) r h = one_holds k cs r h.1

pub holds_at : (cs : List Check) (r : List ℕ) → judged cs r ≡ None → (k : ℕ) → HoldsAt k cs r
holds_at cs r h k = one_holds k cs r (each_holds cs r h)
