-- The laws of the edition of July 2001: what a reading takes can be finished; it takes each beginning of a correct file,
-- and no other; it closes exactly at the correct files; a file's size is bounded. Assumes nothing.
use Rattle.std.proofs.Common.{◌≡◌, ℕ, ◌+◌, ◌≤◌, ◌↔◌, List, [], ◌∷◌, ◌++◌, length, Some, None, Ok, codes, Option, sym, refl, ap, ◌∙◌, subst, arith}
use Rattle.std.specs.Option.{option_map}
use Rattle.std.specs.List.{flat_map}
use Rattle.std.proofs.lemmas.List.{append_assoc, append-nil, length-append}
use Rattle.values.specs.declared.parts.OpenAccount.{OpenAccount}
use Rattle.records.specs.Rules.{file_end_checks}
use Rattle.reading.specs.Offers.{cause_of}
use Rattle.reading.specs.Progress.{Progress, at_start, refused, moved, moved_to, after}
use Rattle.reading.specs.Taken.{account_after, closing}
use Rattle.reading.specs.declared.phases.Phase.{Phase}
use Rattle.reading.specs.declared.phases.Phase.TheVariants.{Start, Between, Opened, Texts, Converted, Ended}
use Rattle.edition.proofs.Taking.{Fitting, none_refused, fitting}
use Rattle.guarantee.specs.Files.{Keeps, if_any, movement_records, account_records, CorrectFile, Begins}
use Rattle.guarantee.proofs.Coming.{next_of, before}
use Rattle.guarantee.proofs.Finishing.{Finishable, still_finishable, finished}
use Rattle.guarantee.proofs.ToCome.{Coming, ToCome}
use Rattle.guarantee.proofs.Ways.{way}

abbrev pub Sound : Progress → Type 0
Sound p = Finishable p.phase p.taken p.account

-- for every rest, the records taken and then the rest are a correct file just if the rest may still come
abbrev pub Stands : Progress → List (List ℕ) → Type 0
Stands p l = (rest : List (List ℕ)) → CorrectFile (l ++ rest) ↔ ToCome p rest

-- one record
abbrev Fits : Progress → List ℕ → Type 0
Fits p o = Fitting p.phase p.taken p.account o

moved_on : (p : Progress) (o : List ℕ) (f : Fits p o) → record { phase = f.after; taken = p.taken + 1; account = account_after p.account o f.kind } ≡ after p o
unfolding after
moved_on p o f = sym (ap (moved p o) f.fields.is ∙ ap (moved_to p o f.kind) f.may)

not_refused : (p : Progress) (o : List ℕ) → Fits p o → refused p o ≡ None
unfolding refused
not_refused p o f = ap (option_map _) (none_refused p.phase p.taken p.account o f)

none_mapped : {A B : Type 0} (f : A → B) (x : Option A) → option_map f x ≡ None → x ≡ None
none_mapped f None h = refl
none_mapped f (Some x) h = absurd (let z : ◌≡◌ {A = ℕ} 0 1 = cc in omega arith)

fits : (p : Progress) (o : List ℕ) → refused p o ≡ None → Fits p o
unfolding refused
fits p o h = fitting p.phase p.taken p.account o (none_mapped _ (cause_of p.phase p.taken p.account o) h)

-- what may come begins with a record that is taken, and what follows may come after it
pub derived : (p : Progress) (o : List ℕ) (rest : List (List ℕ)) → ToCome p (o ∷ rest) → (refused p o ≡ None) × ToCome (after p o) rest
derived p o rest t =
    let n = next_of p.phase p.taken p.account o rest t in
    (not_refused p o n.0, subst (λ q. ToCome q rest) (moved_on p o n.0) n.1)

module _ (p : Progress) (o : List ℕ) (sound : Sound p) (taken : refused p o ≡ None) where
  pub restored : (rest : List (List ℕ)) → ToCome (after p o) rest → ToCome p (o ∷ rest)
  restored rest t =
      let f = fits p o taken in
      let w = way p.phase f.kind f.after f.may in
      before p.phase f.kind f.after w p.taken p.account o rest sound.few f.numbered f.fields (subst (λ q. ToCome q rest) (sym (moved_on p o f)) t)

  pub sound_after : Sound (after p o)
  sound_after =
      let f = fits p o taken in
      let w = way p.phase f.kind f.after f.may in
      subst Sound (moved_on p o f) (still_finishable p.phase f.kind f.after w p.taken p.account o f.numbered f.fields sound)

  one_more : (after p o).taken ≡ p.taken + 1
  one_more = ap (λ (q : Progress). q.taken) (sym (moved_on p o (fits p o taken)))

pub sound_start : Sound at_start
unfolding at_start
sound_start = record { few = omega arith; room = omega arith; closable = λ i. absurd i }

pub completed : (p : Progress) → Sound p → (rest : List (List ℕ)) × ToCome p rest
completed p s = finished p.phase p.taken p.account s

-- the file has ended just if nothing may come
nothing_comes : (phase : Phase) (n : ℕ) (a : OpenAccount) → Coming phase n a [] → closing phase n ≡ Ok tt
nothing_comes Start n a t = absurd (omega (arith, ap length t.0.whole, length-append (flat_map account_records t.0.accounts) (t.0.end ∷ [])))
nothing_comes Between n a t = absurd (omega (arith, ap length t.whole, length-append (flat_map account_records t.accounts) (t.end ∷ [])))
nothing_comes Opened n a t = absurd (omega (arith, ap length t.whole, length-append (flat_map movement_records t.movements) (t.end ∷ t.behind)))
nothing_comes (Texts k) n a t =
    let m = t.then in
    absurd (omega (arith, ap length t.whole, length-append (t.texts ++ if_any t.equivalent) t.behind, ap length m.whole, length-append (flat_map movement_records m.movements) (m.end ∷ m.behind)))
nothing_comes Converted n a t = absurd (omega (arith, ap length t.whole, length-append (flat_map movement_records t.movements) (t.end ∷ t.behind)))
nothing_comes Ended n a t = refl

ended : (phase : Phase) (n : ℕ) → closing phase n ≡ Ok tt → phase ≡ Ended
ended Start n h = absurd (let z : ◌≡◌ {A = ℕ} 0 1 = cc in omega arith)
ended Between n h = absurd (let z : ◌≡◌ {A = ℕ} 0 1 = cc in omega arith)
ended Opened n h = absurd (let z : ◌≡◌ {A = ℕ} 0 1 = cc in omega arith)
ended (Texts k) n h = absurd (let z : ◌≡◌ {A = ℕ} 0 1 = cc in omega arith)
ended Converted n h = absurd (let z : ◌≡◌ {A = ℕ} 0 1 = cc in omega arith)
ended Ended n h = refl

comes_after_end : (p : Progress) → closing p.phase p.taken ≡ Ok tt → (rest : List (List ℕ)) → ToCome p rest ↔ (rest ≡ [])
comes_after_end p h rest =
    let is = ended p.phase p.taken h in
    (subst (λ q. Coming q p.taken p.account rest) is, subst (λ q. Coming q p.taken p.account rest) (sym is))

-- what a reading is to the records it took
pub record Standing (p : Progress) (l : List (List ℕ)) : Type 0 where
  pub sound : Sound p
  pub stands : Stands p l
  pub many : p.taken ≡ length l

whole_comes : (rest : List (List ℕ)) → CorrectFile rest ↔ Coming Start 0 at_start.account rest
whole_comes rest =
    let none : (n : ℕ) → n ≡ 0 + n = λ n. omega arith in (
      (λ c. (
        record {
          accounts = c.accounts;
          end = c.end;
          whole = c.whole;
          each = c.each;
          last = subst (λ n. Keeps (codes "88") (file_end_checks n) c.end) (none (length (flat_map account_records c.accounts))) c.last;
          bound = omega (arith, c.bound);
        },
        c.some,
      )),
      (λ t. record {
        accounts = t.0.accounts;
        end = t.0.end;
        whole = t.0.whole;
        some = t.1;
        each = t.0.each;
        last = subst (λ n. Keeps (codes "88") (file_end_checks n) t.0.end) (sym (none (length (flat_map account_records t.0.accounts)))) t.0.last;
        bound = omega (arith, t.0.bound);
      }),
    )

-- a reading just made stands for no records
pub standing_start : Standing at_start []
unfolding at_start
standing_start = record { sound = sound_start; stands = whole_comes; many = refl }

module _ {p : Progress} {l : List (List ℕ)} (s : Standing p l) where
  -- the records taken begin a correct file
  pub begins : Begins l
  begins = let r = completed p s.sound in record { rest = r.0; correct = (s.stands r.0).1 r.1 }

  -- a close is granted just if they are one
  pub close_correct : (closing p.phase p.taken ≡ Ok tt) ↔ CorrectFile l
  close_correct = (
    (λ h. subst CorrectFile (append-nil l) ((s.stands []).1 ((comes_after_end p h []).1 refl))),
    (λ c. nothing_comes p.phase p.taken p.account ((s.stands []).0 (subst CorrectFile (sym (append-nil l)) c))),
  )

  -- after a record that is taken, the reading stands for one record more
  pub standing_after : (o : List ℕ) → refused p o ≡ None → Standing (after p o) (l ++ (o ∷ []))
  standing_after o h = record {
    sound = sound_after p o s.sound h;
    stands = λ rest. (
      (λ c. (derived p o rest ((s.stands (o ∷ rest)).0 (subst CorrectFile (append_assoc l (o ∷ []) rest) c))).1),
      (λ t. subst CorrectFile (sym (append_assoc l (o ∷ []) rest)) ((s.stands (o ∷ rest)).1 (restored p o s.sound h rest t))),
    );
    many = omega (arith, one_more p o s.sound h, s.many, length-append l (o ∷ []));
  }

  taken_if : (o : List ℕ) → Begins (l ++ (o ∷ [])) → refused p o ≡ None
  taken_if o b = (derived p o b.rest ((s.stands (o ∷ b.rest)).0 (subst CorrectFile (append_assoc l (o ∷ []) b.rest) b.correct))).0

-- an offer is taken just if the records taken and then this one begin a correct file
pub taken_begins : {p : Progress} {l : List (List ℕ)} → Standing p l → (o : List ℕ) → (refused p o ≡ None) ↔ Begins (l ++ (o ∷ []))
taken_begins s o = ((λ h. begins (standing_after s o h)), taken_if s o)

-- every beginning is what some reading stands for
reached_from : (rest : List (List ℕ)) (p : Progress) (l : List (List ℕ)) → Standing p l → Begins (l ++ rest) → (q : Progress) × Standing q (l ++ rest)
reached_from [] p l s b = (p, subst (Standing p) (sym (append-nil l)) s)
reached_from (o ∷ rest) p l s b =
    let same = append_assoc l (o ∷ []) rest in
    let first : Begins (l ++ (o ∷ [])) = record { rest = rest ++ b.rest; correct = subst CorrectFile (ap (λ x. x ++ b.rest) (sym same) ∙ append_assoc (l ++ (o ∷ [])) rest b.rest) b.correct } in
    let r = reached_from rest (after p o) (l ++ (o ∷ [])) (standing_after s o (taken_if s o first)) (subst Begins (sym same) b) in
    (r.0, subst (Standing r.0) same r.1)

pub reached : (l : List (List ℕ)) → Begins l → (p : Progress) × Standing p l
reached l b = reached_from l at_start [] standing_start b

-- nothing follows a correct file
pub no_longer : (l : List (List ℕ)) (o : List ℕ) (rest : List (List ℕ)) → CorrectFile l → CorrectFile (l ++ (o ∷ rest)) → ⊥
no_longer l o rest c d =
    let r = reached l (record { rest = []; correct = subst CorrectFile (sym (append-nil l)) c }) in
    let none = (comes_after_end r.0 ((close_correct r.1).1 c) (o ∷ rest)).0 ((r.1.stands (o ∷ rest)).0 d) in
    let z : ◌≡◌ {A = ℕ} 0 1 = cc in
    omega arith

pub never_both : (l : List (List ℕ)) (o : List ℕ) → CorrectFile l → Begins (l ++ (o ∷ [])) → ⊥
never_both l o c b = no_longer l o b.rest c (subst CorrectFile (append_assoc l (o ∷ []) b.rest) b.correct)

-- a correct file has at most a million records
pub file_bound : (l : List (List ℕ)) → CorrectFile l → length l ≤ 1000000
file_bound l c = omega (arith, c.bound, ap length c.whole, length-append (flat_map account_records c.accounts) (c.end ∷ []))
