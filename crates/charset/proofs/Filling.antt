-- A code table that is filled place by place. Assumes nothing.
use Rattle.std.proofs.Common.{◌≡◌, ℕ, ◌+◌, ◌<◌, ◌≤◌, Bool, true, false, cond, List, length, get_or, take, drop, set, replicate, is_some, Some, None, Option, sym, refl, ap, ◌∙◌, arith, length-set}
use Rattle.std.proofs.lemmas.List.{take_more, take_all, drop_all, get_or-replicate, length-take-le}
use Rattle.std.proofs.lemmas.Bool.{cond-true, cond-false}
use Rattle.charset.specs.Coding.{among, repeat_after, first_repeat, Answers}
use Rattle.charset.proofs.Lookup.{found_among, answers_push, repeat_step}

-- both arrays answer for the first i bytes and characters, and none of them comes twice
pub record Filled (bytes characters : List ℕ) (decoding encoding : List (Option ℕ)) (i : ℕ) : Type 0 where
  pub bytes_apart : first_repeat bytes ≡ repeat_after (take i bytes) i (drop i bytes)
  pub characters_apart : first_repeat characters ≡ repeat_after (take i characters) i (drop i characters)
  pub reads : Answers decoding (take i bytes) (take i characters)
  pub writes : Answers encoding (take i characters) (take i bytes)
  pub reads_all : length decoding ≡ 256
  pub writes_all : length encoding ≡ 256

pub none : (bytes characters : List ℕ) → Filled bytes characters (replicate 256 None) (replicate 256 None) 0
none bytes characters = record {
  bytes_apart = refl;
  characters_apart = refl;
  reads = λ key small. get_or-replicate 256 key None None small;
  writes = λ key small. get_or-replicate 256 key None None small;
  reads_all = refl;
  writes_all = refl;
}

first_time : (b : Bool) (rest : Option ℕ) (i : ℕ) → None ≡ cond b (Some i) rest → b ≡ false
first_time true rest i h = absurd (let z : ◌≡◌ {A = ℕ} 0 1 = cc in omega arith)
first_time false rest i h = refl

pub all : (bytes characters : List ℕ) (decoding encoding : List (Option ℕ)) (i : ℕ) → length bytes ≤ i → length characters ≤ i → Filled bytes characters decoding encoding i → (first_repeat bytes ≡ None) × Answers decoding bytes characters × Answers encoding characters bytes
all bytes characters decoding encoding i h k f =
    let p = take_all i bytes h in
    let q = take_all i characters k in
    (f.bytes_apart ∙ ap (repeat_after (take i bytes) i) (drop_all i bytes h), rw (p, q) at f.reads, rw (p, q) at f.writes)

module _ (bytes characters : List ℕ) (decoding encoding : List (Option ℕ)) (i : ℕ) (long : length bytes ≡ length characters) (within : i < length bytes) (so_far : Filled bytes characters decoding encoding i) where
  fronts : length (take i bytes) ≡ length (take i characters)
  fronts = length-take-le i bytes (omega arith) ∙ sym (length-take-le i characters (omega arith))

  -- the array knows whether a byte came before
  known : get_or bytes i 0 < 256 → is_some (get_or decoding (get_or bytes i 0) None) ≡ among (get_or bytes i 0) (take i bytes)
  known small = ap is_some (so_far.reads (get_or bytes i 0) small) ∙ found_among (take i bytes) (take i characters) (get_or bytes i 0) fronts

  pub came_before : get_or bytes i 0 < 256 → is_some (get_or decoding (get_or bytes i 0) None) ≡ true → first_repeat bytes ≡ Some i
  came_before small h = so_far.bytes_apart ∙ (repeat_step bytes i within ∙ cond-true (among (get_or bytes i 0) (take i bytes)) _ _ (sym (known small) ∙ h))

  pub more : get_or bytes i 0 < 256 → get_or characters i 0 < 256 → is_some (get_or decoding (get_or bytes i 0) None) ≡ false → first_repeat characters ≡ None → Filled bytes characters (set decoding (get_or bytes i 0) (Some (get_or characters i 0))) (set encoding (get_or characters i 0) (Some (get_or bytes i 0))) (i + 1)
  more small small' h once = record {
    bytes_apart = so_far.bytes_apart ∙ (repeat_step bytes i within ∙ cond-false (among (get_or bytes i 0) (take i bytes)) _ _ new);
    characters_apart = so_far.characters_apart ∙ (repeat_step characters i (omega arith) ∙ cond-false (among (get_or characters i 0) (take i characters)) _ _ new');
    reads = rw (take_more bytes i 0 within, take_more characters i 0 inside) (answers_push decoding (take i bytes) (take i characters) (get_or bytes i 0) (get_or characters i 0) (omega (arith, so_far.reads_all)) fronts new so_far.reads);
    writes = rw (take_more bytes i 0 within, take_more characters i 0 inside) (answers_push encoding (take i characters) (take i bytes) (get_or characters i 0) (get_or bytes i 0) (omega (arith, so_far.writes_all)) (sym fronts) new' so_far.writes);
    reads_all = length-set decoding _ _ ∙ so_far.reads_all;
    writes_all = length-set encoding _ _ ∙ so_far.writes_all;
  }
    where
      inside : i < length characters
      inside = omega arith

      new : among (get_or bytes i 0) (take i bytes) ≡ false
      new = sym (known small) ∙ h

      new' : among (get_or characters i 0) (take i characters) ≡ false
      new' = first_time (among (get_or characters i 0) (take i characters)) (repeat_after (take (i + 1) characters) (i + 1) (drop (i + 1) characters)) i (sym once ∙ (so_far.characters_apart ∙ repeat_step characters i inside))
