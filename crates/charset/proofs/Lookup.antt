-- Laws of look-ups in two lists side by side. Assumes nothing.
use Rattle.std.proofs.Common.{◌≡◌, ℕ, ◌+◌, ◌<◌, Bool, true, false, cond, ◌||◌, eqb, List, [], ◌∷◌, ◌++◌, length, get_or, take, drop, set, is_some, Some, None, Option, sym, refl, ap, ◌∙◌, ⊎_elim, add-one, arith}
use Rattle.std.proofs.lemmas.List.{get_or-set_same, get_or-set_other, take_more, drop_more}
use Rattle.std.proofs.lemmas.Bool.{eq-eqb, ne_eqb, cases_eq, or_parts, or_left, or_right}
use Rattle.charset.specs.Coding.{among, lookup, repeat_after, Answers}

-- a key is found exactly where it stands among the keys
pub found_among : (ks vs : List ℕ) (q : ℕ) → length ks ≡ length vs → is_some (lookup ks vs q) ≡ among q ks
found_among [] vs q l = refl
found_among (k ∷ ks) [] q l = absurd (omega arith)
found_among (k ∷ ks) (v ∷ vs) q l = go (eqb k q) (found_among ks vs q (omega arith))
  where
    go : (b : Bool) → is_some (lookup ks vs q) ≡ among q ks → is_some (cond b (Some v) (lookup ks vs q)) ≡ (b || among q ks)
    go true h = refl
    go false h = h

-- one pair more: a new key finds it, and every other finds what it found
pub lookup_push_same : (ks vs : List ℕ) (k v : ℕ) → length ks ≡ length vs → among k ks ≡ false → lookup (ks ++ (k ∷ [])) (vs ++ (v ∷ [])) k ≡ Some v
lookup_push_same [] [] k v l new = rw (eq-eqb k k refl)
lookup_push_same [] (y ∷ vs) k v l new = absurd (omega arith)
lookup_push_same (x ∷ ks) [] k v l new = absurd (omega arith)
lookup_push_same (x ∷ ks) (y ∷ vs) k v l new =
    let p = or_parts (eqb x k) (among k ks) new in
    rw p.0 (lookup_push_same ks vs k v (omega arith) p.1)

pub lookup_push_other : (ks vs : List ℕ) (k v q : ℕ) → length ks ≡ length vs → eqb k q ≡ false → lookup (ks ++ (k ∷ [])) (vs ++ (v ∷ [])) q ≡ lookup ks vs q
lookup_push_other [] [] k v q l ne = rw ne
lookup_push_other [] (y ∷ vs) k v q l ne = absurd (omega arith)
lookup_push_other (x ∷ ks) [] k v q l ne = absurd (omega arith)
lookup_push_other (x ∷ ks) (y ∷ vs) k v q l ne =
    ap (λ (r : Option ℕ). cond (eqb x q) (Some y) r) (lookup_push_other ks vs k v q (omega arith) ne)

-- an array that answers for some keys answers for one more, once that is set
pub answers_push : (array : List (Option ℕ)) (ks vs : List ℕ) (k v : ℕ) → k < length array → length ks ≡ length vs → among k ks ≡ false → Answers array ks vs → Answers (set array k (Some v)) (ks ++ (k ∷ [])) (vs ++ (v ∷ []))
answers_push array ks vs k v h l new all q small =
    ⊎_elim
    (λ (e : k ≡ q). rw (sym e) (get_or-set_same array k (Some v) None h ∙ sym (lookup_push_same ks vs k v l new)))
    (λ (ne : k ≡ q → ⊥). get_or-set_other array k q (Some v) None (λ e. ne (sym e)) ∙ (all q small ∙ sym (lookup_push_other ks vs k v q l (ne_eqb k q ne))))
    (cases_eq k q)

-- the search for a repeat, one place on
pub repeat_step : (xs : List ℕ) (i : ℕ) → i < length xs → repeat_after (take i xs) i (drop i xs) ≡ cond (among (get_or xs i 0) (take i xs)) (Some i) (repeat_after (take (i + 1) xs) (i + 1) (drop (i + 1) xs))
repeat_step xs i h = rw (drop_more xs i 0 h, take_more xs i 0 h, add-one) refl

-- what is found stands among the values
pub found_value : (ks vs : List ℕ) (q v : ℕ) → lookup ks vs q ≡ Some v → among v vs ≡ true
found_value [] vs q v h = absurd (let z : ◌≡◌ {A = ℕ} 0 1 = cc in omega arith)
found_value (k ∷ ks) [] q v h = absurd (let z : ◌≡◌ {A = ℕ} 0 1 = cc in omega arith)
found_value (k ∷ ks) (y ∷ vs) q v h = go (eqb k q) (found_value ks vs q v) h
  where
    go : (b : Bool) → (lookup ks vs q ≡ Some v → among v vs ≡ true) → cond b (Some y) (lookup ks vs q) ≡ Some v → (eqb y v || among v vs) ≡ true
    go true rest e = or_left (eqb y v) (among v vs) (eq-eqb y v (cc))
    go false rest e = or_right (eqb y v) (among v vs) (rest e)
