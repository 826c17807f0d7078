-- A record written after whole records is the last of them. Assumes nothing.
use Rattle.std.proofs.Common.{◌≡◌, ℕ, zero, suc, ◌+◌, ◌-◌, ◌/◌, ◌<◌, ◌≤◌, Bool, true, false, cond, List, [], ◌∷◌, ◌++◌, length, take, drop, Some, None, Ok, Err, Option, Result, unwrap_or, sym, refl, ap, ◌∙◌, ap₂, ⊎_elim, append_assoc, arith, length-append, length-drop}
use native.Mathlib.Nat.{div-eq-sub-div, div-eq_of_lt}
use lib.ListN.{length-map}
use Rattle.std.specs.Str.{bytes_eq}
use Rattle.std.proofs.lemmas.Slice.Eq.{bytes_eq-Decides}
use Rattle.std.proofs.lemmas.List.{take_at, drop_at, take-append-le, drop-append-le, drop_all, nil_from_length, length-take-le}
use Rattle.std.proofs.lemmas.Bool.{and_parts, eqb-true, ne_eqb, lt-ltb, both_ways, cases_lt, cases_eq}
use Rattle.charset.specs.Tables.{decoded, encoded}
use Rattle.charset.specs.declared.code_table.CodeTable.{CodeTable}
use Rattle.media.specs.Bytes.{Contents, standing, read_all, before, contents_in, contents, reads_clean}
use Rattle.media.specs.Frames.{line_end, stride}
use Rattle.media.specs.Images.{framed, bytes_after, Behind, places_left}
use Rattle.media.specs.Meaning.{all_characters, is_record}
use Rattle.media.specs.Translation.{translated, first_without}
use Rattle.media.specs.declared.framing.Framing.{Framing}
use Rattle.media.specs.declared.images.Image.{Image}
use Rattle.media.specs.Endings.{is_clean}
use Rattle.media.specs.declared.volumes.VolumeFault.{VolumeFault}
use Rattle.media.specs.declared.volumes.VolumeFault.TheVariants.{Frame}
use Rattle.media.proofs.Scanning.{contents_step, stands_whole}
use Rattle.media.proofs.Standing.{held, enough}
use Rattle.media.proofs.Writing.{reads_again, part_length, two_parts}

module _ (f : Framing) (t : CodeTable) where
  module _ (r : List ℕ) (is : is_record r ≡ true) where
    parts : (length r ≡ 80) × (all_characters r ≡ true)
    parts = let p = and_parts _ _ is in (eqb-true (length r) 80 p.0, p.1)

    pub text_long : length (translated (encoded t) r) ≡ 80
    text_long = length-map r (λ c. unwrap_or (encoded t c) 0) ∙ parts.0

    pub frame_long : length (framed f t r) ≡ stride f
    frame_long = length-append (translated (encoded t) r) (line_end f) ∙ ap (λ n. n + length (line_end f)) text_long

    -- a record that is framed stands there
    pub frame_stands : (p : ℕ) → standing f t (framed f t r) p ≡ Ok (Some r)
    frame_stands p =
        let front : take 80 (framed f t r) ≡ translated (encoded t) r = take_at (translated (encoded t) r) (line_end f) 80 text_long in
        let back : drop 80 (framed f t r) ≡ line_end f = drop_at (translated (encoded t) r) (line_end f) 80 text_long in
        let again = reads_again t r 0 parts.1 in
        held f t (framed f t r) p (stride f) r refl (omega (arith, frame_long))
        ((bytes_eq-Decides (take (stride f - 80) (drop 80 (framed f t r))) (line_end f)).1 (ap (take (stride f - 80)) back ∙ whole_end f))
        (rw front again.0) (rw front (sym again.1))
      where
        whole_end : (g : Framing) → take (stride g - 80) (line_end g) ≡ line_end g
        whole_end Framing.Lines = refl
        whole_end Framing.Blocks = refl

  -- bytes that are enough for what stands in front are enough whatever follows
  stands_still : (rest more : List ℕ) (p : ℕ) → stride f ≤ length rest → standing f t (rest ++ more) p ≡ standing f t rest p
  stands_still rest more p h =
      let text : take 80 (rest ++ more) ≡ take 80 rest = take-append-le 80 rest more (omega arith) in
      let end : take (length (line_end f)) (drop 80 (rest ++ more)) ≡ take (length (line_end f)) (drop 80 rest) =
      ap (take (length (line_end f))) (drop-append-le 80 rest more (omega arith)) ∙ take-append-le (length (line_end f)) (drop 80 rest) more (omega (arith, length-drop 80 rest)) in
      enough f t (rest ++ more) p (omega (arith, length-append rest more)) ∙ (rw (text, end) refl ∙ sym (enough f t rest p h))

  -- a volume ends clean only where no byte remains
  ends_empty : (rest : List ℕ) (p : ℕ) → standing f t rest p ≡ Ok None → length rest ≡ 0
  ends_empty rest p h = ⊎_elim (λ short. below short) (λ long. absurd (beyond long)) (cases_lt (length rest) (stride f))
    where
      below : length rest < stride f → length rest ≡ 0
      below short = ⊎_elim (λ z. z) (λ some. absurd (broken_short some)) (cases_eq (length rest) 0)
        where
          broken_short : (length rest ≡ 0 → ⊥) → ⊥
          broken_short some = let b : standing f t rest p ≡ Err (Frame p) = rw (ne_eqb (length rest) 0 some, lt-ltb (length rest) (stride f) short) in cc

      beyond : stride f ≤ length rest → ⊥
      beyond long = go (bytes_eq (take (length (line_end f)) (drop 80 rest)) (line_end f)) (first_without (decoded t) (take 80 rest) 0) (sym (enough f t rest p long) ∙ h)
        where
          go : (b : Bool) (o : Option ℕ) → cond b (read_all t (take 80 rest) p o) (Err (Frame (p + 80))) ≡ Ok None → ⊥
          go true None x = cc
          go true (Some i) x = cc
          go false o x = cc

  module _ (r : List ℕ) (is : is_record r ≡ true) where
    -- a record alone
    alone : (p : ℕ) → contents f t (framed f t r) p ≡ record { records = r ∷ []; ending = Ok tt }
    alone p =
        contents_step f t (framed f t r) p
        ∙ (ap (λ x. before x (contents f t (drop (stride f) (framed f t r)) (p + stride f))) (frame_stands r is p)
        ∙ ap (λ l. before (Ok (Some r)) (contents f t l (p + stride f))) (drop_all (stride f) (framed f t r) (omega (arith, frame_long r is))))

    push_from : (n : ℕ) (rest : List ℕ) (p : ℕ) → length rest ≤ n → is_clean (contents_in n f t rest p).ending ≡ true → contents f t (rest ++ framed f t r) p ≡ record { records = (contents_in n f t rest p).records ++ (r ∷ []); ending = Ok tt }
    push_from zero rest p h c = ap (λ l. contents f t (l ++ framed f t r) p) (nil_from_length rest (omega arith)) ∙ alone p
    push_from (suc n) rest p h c = go (standing f t rest p) refl (push_from n (drop (stride f) rest) (p + stride f)) c
      where
        go : (s : Result (Option (List ℕ)) VolumeFault) → standing f t rest p ≡ s
            → (length (drop (stride f) rest) ≤ n → is_clean (contents_in n f t (drop (stride f) rest) (p + stride f)).ending ≡ true → contents f t (drop (stride f) rest ++ framed f t r) (p + stride f) ≡ record { records = (contents_in n f t (drop (stride f) rest) (p + stride f)).records ++ (r ∷ []); ending = Ok tt })
            → is_clean (before s (contents_in n f t (drop (stride f) rest) (p + stride f))).ending ≡ true
            → contents f t (rest ++ framed f t r) p ≡ record { records = (before s (contents_in n f t (drop (stride f) rest) (p + stride f))).records ++ (r ∷ []); ending = Ok tt }
        go (Ok (Some x)) e later k =
            let long = (stands_whole f t rest p x e).0 in
            contents_step f t (rest ++ framed f t r) p
            ∙ (ap (λ y. before y (contents f t (drop (stride f) (rest ++ framed f t r)) (p + stride f))) (stands_still rest (framed f t r) p long ∙ e)
            ∙ (ap (λ l. before (Ok (Some x)) (contents f t l (p + stride f))) (drop-append-le (stride f) rest (framed f t r) long)
            ∙ ap (before (Ok (Some x))) (later (omega (arith, length-drop (stride f) rest)) k)))
        go (Ok None) e later k = ap (λ l. contents f t (l ++ framed f t r) p) (nil_from_length rest (ends_empty rest p e)) ∙ alone p
        go (Err x) e later k = absurd (both_ways false refl k)

    -- after whole records it is one more
    pub push : (rest : List ℕ) → reads_clean f t rest ≡ true → contents f t (rest ++ framed f t r) 0 ≡ record { records = (contents f t rest 0).records ++ (r ∷ []); ending = Ok tt }
    push rest c = push_from (length rest) rest 0 (omega arith) c

    -- the bytes of an image after a record is written at p
    module _ (xs : List ℕ) (p : ℕ) (room : p + stride f ≤ length xs) where
      pub still_long : length (bytes_after xs p (framed f t r)) ≡ length xs
      still_long = part_length xs (framed f t r) p (omega (arith, frame_long r is))

      front_now : take (p + stride f) (bytes_after xs p (framed f t r)) ≡ take p xs ++ framed f t r
      front_now =
          ap (take (p + stride f)) (sym (append_assoc (take p xs) (framed f t r) (drop (p + length (framed f t r)) xs)))
          ∙ take_at (take p xs ++ framed f t r) (drop (p + length (framed f t r)) xs) (p + stride f) (omega (arith, length-append (take p xs) (framed f t r), length-take-le p xs (omega arith), frame_long r is))

      pub put_after : reads_clean f t (take p xs) ≡ true → contents f t (take (p + stride f) (bytes_after xs p (framed f t r))) 0 ≡ record { records = (contents f t (take p xs) 0).records ++ (r ∷ []); ending = Ok tt }
      put_after c = ap (λ l. contents f t l 0) front_now ∙ push (take p xs) c

      pub one_less : (length (bytes_after xs p (framed f t r)) - (p + stride f)) / stride f + 1 ≡ (length xs - p) / stride f
      one_less =
          let left : length (bytes_after xs p (framed f t r)) - (p + stride f) ≡ (length xs - p) - stride f = omega (arith, still_long) in
          ap (λ n. n / stride f + 1) left ∙ sym (div-eq-sub-div {m = stride f} {n = length xs - p} (omega arith) (omega arith))

-- a place is left exactly where a record fits
room_left : (f : Framing) (n : ℕ) → (n / stride f ≡ 0 → ⊥) → stride f ≤ n
room_left f n some = ⊎_elim (λ short. absurd (some (div-eq_of_lt short))) (λ long. long) (cases_lt n (stride f))

-- an image after its text and its line end are written
pub wrote : (i i₁ i₂ : Image) (r text end : List ℕ) → Behind i i₁ i.position text → Behind i₁ i₂ (i.position + 80) end → is_record r ≡ true → text ≡ translated (encoded i.table) r → end ≡ line_end i.framing → i.position + stride i.framing ≤ length i.bytes.now → i₂.bytes.now ≡ bytes_after i.bytes.now i.position (framed i.framing i.table r)
wrote i i₁ i₂ r text end one two is same same' room =
    let long : length text ≡ 80 = ap length same ∙ text_long i.framing i.table r is in
    two.part_written
    ∙ (ap₂ (λ l n. bytes_after l n end) one.part_written (ap (λ n. i.position + n) (sym long))
    ∙ (two_parts i.bytes.now text end i.position (omega (arith, ap length same')) ∙ ap₂ (λ a b. bytes_after i.bytes.now i.position (a ++ b)) same same'))

pub record Put (f f' : Framing) (t t' : CodeTable) (xs ys r : List ℕ) (p s : ℕ) : Type 0 where
  pub inside : p + s ≤ length ys
  pub clean : reads_clean f' t' (take (p + s) ys) ≡ true
  pub records : (contents f' t' (take (p + s) ys) 0).records ≡ (contents f t (take p xs) 0).records ++ (r ∷ [])
  pub places : (length ys - (p + s)) / stride f' + 1 ≡ (length xs - p) / stride f

pub put : (f f' : Framing) (t t' : CodeTable) (xs ys r : List ℕ) (p s : ℕ) → f' ≡ f → t' ≡ t → ys ≡ bytes_after xs p (framed f t r) → s ≡ stride f → is_record r ≡ true → p + stride f ≤ length xs → reads_clean f t (take p xs) ≡ true → Put f f' t t' xs ys r p s
put f f' t t' xs ys r p s ef et ey es is room c =
    let after = put_after f t r is xs p room c in
    rw (ef, et, ey, es) (record {
      inside = omega (arith, still_long f t r is xs p room);
      clean = ap (λ (x : Contents). is_clean x.ending) after;
      records = ap (λ (x : Contents). x.records) after;
      places = one_less f t r is xs p room;
    })

pub room : (i : Image) → (places_left i ≡ 0 → ⊥) → i.position + stride i.framing ≤ length i.bytes.now
room i some = omega (arith, room_left i.framing (length i.bytes.now - i.position) some, i.within)
