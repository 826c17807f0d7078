-- The records of a volume, one place on, and what each of them is. Assumes nothing.
use Rattle.std.proofs.Common.{◌≡◌, ℕ, zero, suc, ◌+◌, ◌≤◌, Bool, true, false, cond, ◌&&◌, eqb, ltb, List, [], ◌∷◌, length, take, drop, is_some, Some, None, Ok, Err, Option, unwrap_or, refl, ap, ◌∙◌, subst, arith, length-drop, length-take}
use lib.ListN.{length-map}
use Rattle.std.specs.Str.{bytes_eq}
use Rattle.std.proofs.lemmas.List.{drop-drop}
use Rattle.std.proofs.lemmas.Bool.{eq-eqb, ltb-false, and_from}
use Rattle.charset.specs.Characters.{is_character}
use Rattle.charset.specs.Tables.{decoded}
use Rattle.charset.specs.declared.code_table.CodeTable.{CodeTable}
use Rattle.charset.proofs.Tables.{decoded_character}
use Rattle.media.specs.Bytes.{Contents, standing, read_all, before, contents_in, contents}
use Rattle.media.specs.Meaning.{all_characters, is_record, Draws}
use Rattle.media.specs.Translation.{translated, first_without}
use Rattle.media.specs.Frames.{line_end, stride}
use Rattle.media.specs.declared.framing.Framing.{Framing}
use Rattle.media.specs.declared.volumes.VolumeFault.TheVariants.{Frame}

module _ (f : Framing) (t : CodeTable) where
  -- nothing stands in no bytes
  none_left : (rest : List ℕ) (p : ℕ) → length rest ≤ 0 → standing f t rest p ≡ Ok None
  none_left rest p h = rw (eq-eqb (length rest) 0 (omega arith))

  shorter : (n : ℕ) (rest : List ℕ) → length rest ≤ suc n → length (drop (stride f) rest) ≤ n
  shorter n rest h = omega (arith, length-drop (stride f) rest)

  -- as many turns as bytes are enough
  enough : (n m : ℕ) (rest : List ℕ) (p : ℕ) → length rest ≤ n → length rest ≤ m → contents_in n f t rest p ≡ contents_in m f t rest p
  enough zero zero rest p h k = refl
  enough zero (suc m) rest p h k = rw (none_left rest p h)
  enough (suc n) zero rest p h k = rw (none_left rest p k)
  enough (suc n) (suc m) rest p h k = ap (before (standing f t rest p)) (enough n m (drop (stride f) rest) (p + stride f) (shorter n rest h) (shorter m rest k))

  -- the contents are what stands at the front and the contents from there on
  pub contents_step : (rest : List ℕ) (p : ℕ) → contents f t rest p ≡ before (standing f t rest p) (contents f t (drop (stride f) rest) (p + stride f))
  contents_step rest p =
      enough (length rest) (suc (length rest)) rest p (omega arith) (omega arith)
      ∙ ap (before (standing f t rest p)) (enough (length rest) (length (drop (stride f) rest)) (drop (stride f) rest) (p + stride f) (omega (arith, length-drop (stride f) rest)) (omega arith))

-- bytes that all read are as many characters
read_characters : (t : CodeTable) (bs : List ℕ) (i : ℕ) → first_without (decoded t) bs i ≡ None → all_characters (translated (decoded t) bs) ≡ true
read_characters t [] i h = refl
read_characters t (b ∷ bs) i h = go (decoded t b) refl (read_characters t bs (suc i)) h
  where
    go : (o : Option ℕ) → decoded t b ≡ o → (first_without (decoded t) bs (suc i) ≡ None → all_characters (translated (decoded t) bs) ≡ true) → cond (is_some o) (first_without (decoded t) bs (suc i)) (Some i) ≡ None → (is_character (unwrap_or o 0) && all_characters (translated (decoded t) bs)) ≡ true
    go None e rest k = absurd (let z : ◌≡◌ {A = ℕ} 0 1 = cc in omega arith)
    go (Some c) e rest k = and_from (is_character c) (all_characters (translated (decoded t) bs)) (decoded_character t b c e) (rest k)

module _ (f : Framing) (t : CodeTable) where
  -- what stands at a place is a record, and the bytes are enough for it
  read_record : (bs : List ℕ) (p : ℕ) (o : Option ℕ) (r : List ℕ) → first_without (decoded t) bs 0 ≡ o → length bs ≡ 80 → read_all t bs p o ≡ Ok (Some r) → is_record r ≡ true
  read_record bs p None r e l h =
      let same : translated (decoded t) bs ≡ r = cc in
      subst (λ (x : List ℕ). is_record x ≡ true) same (and_from (eqb (length (translated (decoded t) bs)) 80) (all_characters (translated (decoded t) bs)) (eq-eqb (length (translated (decoded t) bs)) 80 (length-map bs (λ b. unwrap_or (decoded t b) 0) ∙ l)) (read_characters t bs 0 e))
  read_record bs p (Some i) r e l h = absurd (let z : ◌≡◌ {A = ℕ} 0 1 = cc in omega arith)

  pub stands_whole : (rest : List ℕ) (p : ℕ) (r : List ℕ) → standing f t rest p ≡ Ok (Some r) → (stride f ≤ length rest) × (is_record r ≡ true)
  stands_whole rest p r h = go (eqb (length rest) 0) (ltb (length rest) (stride f)) (bytes_eq (take (length (line_end f)) (drop 80 rest)) (line_end f)) refl h
    where
      go : (a b e : Bool) → ltb (length rest) (stride f) ≡ b → cond a (Ok None) (cond b (Err (Frame p)) (cond e (read_all t (take 80 rest) p (first_without (decoded t) (take 80 rest) 0)) (Err (Frame (p + 80))))) ≡ Ok (Some r) → (stride f ≤ length rest) × (is_record r ≡ true)
      go true b e k x = absurd (let z : ◌≡◌ {A = ℕ} 0 1 = cc in omega arith)
      go false true e k x = absurd (let z : ◌≡◌ {A = ℕ} 0 1 = cc in omega arith)
      go false false false k x = absurd (let z : ◌≡◌ {A = ℕ} 0 1 = cc in omega arith)
      go false false true k x =
          let long = ltb-false (length rest) (stride f) k in
          (long, read_record (take 80 rest) p (first_without (decoded t) (take 80 rest) 0) r refl (omega (arith, length-take 80 rest)) x)

-- drawing where a record stands, and where none does
draws_front : (c later : Contents) (r into : List ℕ) → is_record r ≡ true → c ≡ before (Ok (Some r)) later → Draws c.records c.ending into later.records r (Ok true) × (later.ending ≡ c.ending)
draws_front c later r into w e = rw e ((refl, refl, refl, w), refl)

module _ (f : Framing) (t : CodeTable) where
  pub drawn_record : (bytes : List ℕ) (p s : ℕ) (r into : List ℕ) → s ≡ stride f → standing f t (drop p bytes) p ≡ Ok (Some r) → Draws (contents f t (drop p bytes) p).records (contents f t (drop p bytes) p).ending into (contents f t (drop (p + s) bytes) (p + s)).records r (Ok true) × ((contents f t (drop (p + s) bytes) (p + s)).ending ≡ (contents f t (drop p bytes) p).ending)
  drawn_record bytes p s r into is there =
      let onward : contents f t (drop (stride f) (drop p bytes)) (p + stride f) ≡ contents f t (drop (p + s) bytes) (p + s) = rw (drop-drop (stride f) p bytes, is) in
      draws_front (contents f t (drop p bytes) p) (contents f t (drop (p + s) bytes) (p + s)) r into (stands_whole f t (drop p bytes) p r there).1
      (contents_step f t (drop p bytes) p ∙ (ap (λ x. before x (contents f t (drop (stride f) (drop p bytes)) (p + stride f))) there ∙ ap (before (Ok (Some r))) onward))
