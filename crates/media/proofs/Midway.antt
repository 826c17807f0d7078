-- A carrier that is copied in part. Assumes nothing.
use Rattle.std.proofs.Common.{◌≡◌, ℕ, ◌+◌, ◌-◌, Bool, true, false, cond, eqb, List, [], ◌∷◌, ◌++◌, length, take, drop, Ok, Err, sym, refl, ap, ◌∙◌, subst, ap₂, append_assoc, append-nil, arith, length-append}
use Rattle.std.proofs.lemmas.List.{take_at, drop_at}
use Rattle.std.proofs.lemmas.Bool.{eqb-true, cond-true}
use Rattle.media.specs.Copying.{Copies}
use Rattle.media.specs.Meaning.{is_record, Draws, putting}
use Rattle.media.specs.Endings.{Ending}
use Rattle.media.specs.declared.outputs.PutRefusal.{PutRefusal}
use Rattle.media.specs.declared.outputs.PutRefusal.TheVariants.{NotARecord, NoPlace}

-- what a drawn record says of the records that were left
pub record_drawn : (rs : List (List ℕ)) (e : Ending) (left : List (List ℕ)) (into r : List ℕ) (b : Bool) → b ≡ true → Draws rs e into left r (Ok b) → (rs ≡ r ∷ left) × (is_record r ≡ true)
record_drawn [] (Ok u) left into r b is d = absurd (let h = d.0 in cc)
record_drawn [] (Err fault) left into r b is d = absurd (let h = d.0 in cc)
record_drawn (x ∷ rs) e left into r b is d = (ap₂ (λ a b. a ∷ b) (sym d.2) (sym d.1), subst (λ (y : List ℕ). is_record y ≡ true) (sym d.2) d.3)

-- some records are taken from the carrier and put to the output
pub record Midway (rs left put put' : List (List ℕ)) (places places' : ℕ) : Type 0 where
  pub taken : List (List ℕ)
  pub split : rs ≡ taken ++ left
  pub so_far : put' ≡ put ++ taken
  pub used : places' + length taken ≡ places

module _ {rs rest put put' : List (List ℕ)} {places places' : ℕ} (m : Midway rs rest put put' places places') where
  -- one record more
  pub more : (r : List ℕ) (left put'' : List (List ℕ)) (places'' : ℕ) → rest ≡ r ∷ left → put'' ≡ put' ++ (r ∷ []) → places'' + 1 ≡ places' → Midway rs left put put'' places places''
  more r left put'' places'' e p q = record {
    taken = m.taken ++ (r ∷ []);
    split = m.split ∙ (ap (λ l. m.taken ++ l) e ∙ sym (append_assoc m.taken (r ∷ []) left));
    so_far = p ∙ (ap (λ l. l ++ (r ∷ [])) m.so_far ∙ append_assoc put m.taken (r ∷ []));
    used = omega (arith, length-append m.taken (r ∷ []), m.used);
  }

  -- the records that are taken are all
  pub all : (e : Ending) (left : List (List ℕ)) → rest ≡ [] → left ≡ [] → Copies rs e put places left put' places' (Ok (record { records = places - places'; ending = e }))
  all e left none none' =
      let whole : rs ≡ m.taken = m.split ∙ (ap (λ l. m.taken ++ l) none ∙ append-nil m.taken) in
      let many : places - places' ≡ length rs = omega (arith, m.used, ap length whole) in
      (ap (λ n. record { records = n; ending = e }) many, none', m.so_far ∙ ap (λ l. put ++ l) (sym whole), omega (arith, m.used, ap length whole))

  -- no place is left for a record
  stopped : (e : Ending) (r : List ℕ) (left : List (List ℕ)) (x : PutRefusal) → rest ≡ r ∷ left → is_record r ≡ true → Err x ≡ putting r places' → Copies rs e put places left put' places' (Err x)
  stopped e r left x is ok answer = go x (eqb places' 0) refl (answer ∙ cond-true (is_record r) _ _ ok)
    where
      go : (x : PutRefusal) (b : Bool) → eqb places' 0 ≡ b → Err x ≡ cond b (Err NoPlace) (Ok (tt {0})) → Copies rs e put places left put' places' (Err x)
      go x false k a = absurd (let z : ◌≡◌ {A = ℕ} 0 1 = cc in omega arith)
      go NotARecord true k a = absurd (let z : ◌≡◌ {A = ℕ} 0 1 = cc in omega arith)
      go NoPlace true k a =
          let gone : places' ≡ 0 = eqb-true places' 0 k in
          let long : length m.taken ≡ places = omega (arith, m.used) in
          let here : rs ≡ m.taken ++ (r ∷ left) = m.split ∙ ap (λ l. m.taken ++ l) is in
          let here' : rs ≡ (m.taken ++ (r ∷ [])) ++ left = here ∙ sym (append_assoc m.taken (r ∷ []) left) in (
            omega (arith, ap length here, length-append m.taken (r ∷ left)),
            sym (ap (drop (places + 1)) here' ∙ drop_at (m.taken ++ (r ∷ [])) left (places + 1) (omega (arith, length-append m.taken (r ∷ [])))),
            m.so_far ∙ ap (λ l. put ++ l) (sym (ap (take places) here ∙ take_at m.taken (r ∷ left) places long)),
            gone,
          )

  -- a refused put leaves the output as it was
  pub full : (e : Ending) (r : List ℕ) (left : List (List ℕ)) (x : PutRefusal) (put'' : List (List ℕ)) (places'' : ℕ) → rest ≡ r ∷ left → is_record r ≡ true → Err x ≡ putting r places' → put'' ≡ put' → places'' ≡ places' → Copies rs e put places left put'' places'' (Err x)
  full e r left x put'' places'' is ok answer p q =
      subst (λ (l : List (List ℕ)). Copies rs e put places left l places'' (Err x)) (sym p) (subst (λ (n : ℕ). Copies rs e put places left put' n (Err x)) (sym q) (stopped e r left x is ok answer))
