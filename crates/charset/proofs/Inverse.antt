-- Two lists in which nothing comes twice are looked up both ways. Assumes nothing.
use Rattle.std.proofs.Common.{◌≡◌, ℕ, suc, Bool, true, false, cond, ◌||◌, eqb, List, [], ◌∷◌, ◌++◌, length, is_some, Some, None, Option, sym, refl, ap, ◌∙◌, subst, arith}
use Rattle.std.proofs.lemmas.Bool.{eq-eqb, ne_eqb, eqb-true, both_ways, or_from}
use Rattle.charset.specs.Coding.{among, lookup, repeat_after, first_repeat}
use Rattle.charset.proofs.Lookup.{found_among}

-- nothing comes twice, seen from the front
abbrev pub Once : List ℕ → Type 0
Once [] = Unit {0}
Once (x ∷ xs) = (among x xs ≡ false) × Once xs

among_left : (z : ℕ) (xs ys : List ℕ) → among z xs ≡ true → among z (xs ++ ys) ≡ true
among_left z [] ys h = absurd (both_ways false refl h)
among_left z (x ∷ xs) ys h = go (eqb x z) (among_left z xs ys) h
  where
    go : (b : Bool) → (among z xs ≡ true → among z (xs ++ ys) ≡ true) → (b || among z xs) ≡ true → (b || among z (xs ++ ys)) ≡ true
    go true rest k = refl
    go false rest k = rest k

among_last : (z : ℕ) (xs : List ℕ) → among z (xs ++ (z ∷ [])) ≡ true
among_last z [] = rw (eq-eqb z z refl)
among_last z (x ∷ xs) = go (eqb x z) (among_last z xs)
  where
    go : (b : Bool) → among z (xs ++ (z ∷ [])) ≡ true → (b || among z (xs ++ (z ∷ []))) ≡ true
    go true h = refl
    go false h = h

-- the head of a list without a repeat
head_new : (b : Bool) (i : ℕ) (rest : Option ℕ) → cond b (Some i) rest ≡ None → (b ≡ false) × (rest ≡ None)
head_new true i rest h = absurd (let z : ◌≡◌ {A = ℕ} 0 1 = cc in omega arith)
head_new false i rest h = (refl, h)

none_earlier : (earlier : List ℕ) (i : ℕ) (xs : List ℕ) (z : ℕ) → repeat_after earlier i xs ≡ None → among z earlier ≡ true → among z xs ≡ false
none_earlier earlier i [] z h e = refl
none_earlier earlier i (x ∷ xs) z h e =
    let p = head_new (among x earlier) i _ h in
    or_from (eqb x z) (among z xs)
    (ne_eqb x z (λ same. both_ways (among x earlier) p.0 (subst (λ n. among n earlier ≡ true) (sym same) e)))
    (none_earlier (earlier ++ (x ∷ [])) (suc i) xs z p.1 (among_left z earlier (x ∷ []) e))

once_after : (earlier : List ℕ) (i : ℕ) (xs : List ℕ) → repeat_after earlier i xs ≡ None → Once xs
once_after earlier i [] h = tt
once_after earlier i (x ∷ xs) h =
    let p = head_new (among x earlier) i _ h in
    (none_earlier (earlier ++ (x ∷ [])) (suc i) xs x p.1 (among_last x earlier), once_after (earlier ++ (x ∷ [])) (suc i) xs p.1)

pub once : (xs : List ℕ) → first_repeat xs ≡ None → Once xs
once xs h = once_after [] 0 xs h

-- a key finds its value exactly where the value finds its key
pub lookup_back : (ks vs : List ℕ) (k v : ℕ) → length ks ≡ length vs → Once vs → lookup ks vs k ≡ Some v → lookup vs ks v ≡ Some k
lookup_back [] vs k v l o h = absurd (let z : ◌≡◌ {A = ℕ} 0 1 = cc in omega arith)
lookup_back (x ∷ ks) [] k v l o h = absurd (omega arith)
lookup_back (x ∷ ks) (y ∷ vs) k v l o h = go (eqb x k) refl (lookup_back ks vs k v (omega arith) o.1) h
  where
    go : (b : Bool) → eqb x k ≡ b → (lookup ks vs k ≡ Some v → lookup vs ks v ≡ Some k) → cond b (Some y) (lookup ks vs k) ≡ Some v → cond (eqb y v) (Some x) (lookup vs ks v) ≡ Some k
    go true e rest f =
        let same : y ≡ v = cc in
        rw (eq-eqb y v same) (ap Some (eqb-true x k e))
    go false e rest f =
        let there : among v vs ≡ true = sym (found_among vs ks v (omega arith)) ∙ ap is_some (rest f) in
        rw (ne_eqb y v (λ same. both_ways (among v vs) (subst (λ n. among n vs ≡ false) same o.0) there)) (rest f)
