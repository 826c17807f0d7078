-- Bytes that are translated one after the other. Assumes nothing.
use Rattle.std.proofs.Common.{◌≡◌, ℕ, suc, ◌+◌, ◌<◌, ◌≤◌, Bool, true, false, cond, List, [], ◌∷◌, ◌++◌, length, get_or, take, drop, set, is_some, Some, None, Option, unwrap_or, sym, ap, ◌∙◌, add-one, arith, length-set}
use Rattle.std.proofs.lemmas.List.{take_more_set, take_all, drop_all, drop_more, drop-set-lt, map_more}
use Rattle.media.specs.Translation.{translated, first_without}

-- the first i bytes of 80 are translated in place, and the others are as they were
pub record Translated (t : ℕ → Option ℕ) (bs cs : List ℕ) (i : ℕ) : Type 0 where
  pub unread : first_without t bs 0 ≡ first_without t (drop i bs) i
  pub front : take i cs ≡ translated t (take i bs)
  pub later : drop i cs ≡ drop i bs
  pub whole : length bs ≡ 80
  pub long : length cs ≡ 80

module _ (t : ℕ → Option ℕ) (bs cs : List ℕ) (i : ℕ) (h : i < 80) (d : Translated t bs cs i) where
  inside : i < length bs
  inside = omega (arith, d.whole)

  inside' : i < length cs
  inside' = omega (arith, d.long)

  rests : get_or cs i 0 ∷ drop (i + 1) cs ≡ get_or bs i 0 ∷ drop (i + 1) bs
  rests = sym (drop_more cs i 0 inside') ∙ (d.later ∙ drop_more bs i 0 inside)

  same : get_or bs i 0 ≡ get_or cs i 0
  same = cc rests

  pub more : (c : ℕ) → t (get_or cs i 0) ≡ Some c → Translated t bs (set cs i c) (i + 1)
  more c e' =
      let e : t (get_or bs i 0) ≡ Some c = rw same e' in
      record {
        unread = d.unread ∙ rw (drop_more bs i 0 inside, e, add-one);
        front = take_more_set cs i c inside' ∙ (ap (λ l. l ++ (c ∷ [])) d.front ∙ sym (rw e at (map_more (λ b. unwrap_or (t b) 0) bs i 0 inside)));
        later = drop-set-lt (i + 1) cs i c (omega arith) ∙ cc rests;
        whole = d.whole;
        long = length-set cs i c ∙ d.long;
      }

  pub stop : t (get_or cs i 0) ≡ None → first_without t bs 0 ≡ Some i
  stop e' = let e : t (get_or bs i 0) ≡ None = rw same e' in d.unread ∙ rw (drop_more bs i 0 inside, e)

pub all : (t : ℕ → Option ℕ) (bs cs : List ℕ) (i : ℕ) → 80 ≤ i → Translated t bs cs i → (first_without t bs 0 ≡ None) × (cs ≡ translated t bs)
all t bs cs i h d =
    let done : length bs ≤ i = omega (arith, d.whole) in
    (d.unread ∙ ap (λ l. first_without t l i) (drop_all i bs done), sym (take_all i cs (omega (arith, d.long))) ∙ (d.front ∙ ap (translated t) (take_all i bs done)))

-- an index that is told lies within the bytes
pub within : (t : ℕ → Option ℕ) (bs : List ℕ) (i k : ℕ) → first_without t bs i ≡ Some k → k < i + length bs
within t [] i k e = absurd (let z : ◌≡◌ {A = ℕ} 0 1 = cc in omega arith)
within t (b ∷ bs) i k e = go (is_some (t b)) (within t bs (suc i) k) e
  where
    go : (s : Bool) → (first_without t bs (suc i) ≡ Some k → k < suc i + length bs) → cond s (first_without t bs (suc i)) (Some i) ≡ Some k → k < i + suc (length bs)
    go true rest h = omega (arith, rest h)
    go false rest h = let same : i ≡ k = cc in omega arith
