-- Parts that spell a record from its end back, column by column. Assumes nothing.
use Rattle.std.proofs.Common.{◌≡◌, ℕ, ◌+◌, ◌-◌, ◌^◌, ◌<◌, ◌≤◌, Bool, true, ◌&&◌, leb, List, [], ◌∷◌, ◌++◌, length, drop, replicate, Ok, sym, refl, ap, ◌∙◌, subst, arith}
use Rattle.std.proofs.lemmas.List.{append-nil, append_assoc, take-append-drop, drop-drop, drop_all}
use Rattle.std.proofs.lemmas.Bool.{leb-true, lt-ltb, and_parts}
use Rattle.fields.specs.Blank.{blank}
use Rattle.fields.specs.Decimal.{all_digits, decimal, fits}
use Rattle.fields.proofs.Blank.{spaces_from_blank}
use Rattle.fields.proofs.Decimal.{decimal_value, value_below}
use Rattle.records.specs.Checks.{columns}
use Rattle.records.specs.Values.{number_at}
use Rattle.records.proofs.Judging.{columns_long}
use Rattle.composing.specs.Parts.{Part, spelled, spaces, plain, part_fits, part_characters, added, all_added, composed}
use Rattle.composing.proofs.Standing.{spread, Fit}

-- parts that fit are composed one behind the other
fit_added : (cs : List ℕ) (ps : List Part) → Fit ps → all_added (Ok cs) ps ≡ Ok (cs ++ spread ps)
unfolding added
fit_added cs [] h = ap Ok (sym (append-nil cs))
fit_added cs (p ∷ ps) h =
    rw h.0 (fit_added (cs ++ part_characters p) ps h.1 ∙ ap Ok (append_assoc cs (part_characters p) (spread ps)))

pub fit_composed : (ps : List Part) → Fit ps → composed ps ≡ Ok (spread ps)
unfolding composed
fit_composed ps h = fit_added [] ps h

-- columns a to b of a record
abbrev pub in_record : ℕ → ℕ → Bool
in_record a b = leb 1 a && (leb a b && leb b 80)

columns_there : (a b : ℕ) → in_record a b ≡ true → (1 ≤ a) × (a ≤ b) × (b ≤ 80)
columns_there a b h =
    let p = and_parts (leb 1 a) (leb a b && leb b 80) h in
    let q = and_parts (leb a b) (leb b 80) p.1 in
    (leb-true 1 a p.0, leb-true a b q.0, leb-true b 80 q.1)

-- parts that fit and spell all of a record behind its first c columns
pub record Left (r : List ℕ) (c : ℕ) (ps : List Part) : Type 0 where
  pub fit : Fit ps
  pub same : spread ps ≡ drop c r

pub restored : (ps : List Part) (r : List ℕ) → Left r 0 ps → composed ps ≡ Ok r
restored ps r h = fit_composed ps h.fit ∙ ap Ok h.same

module _ (r : List ℕ) (long : length r ≡ 80) where
  pub nothing_left : Left r 80 []
  nothing_left = record { fit = tt; same = sym (drop_all 80 r (omega arith)) }

  -- one part more in front, in columns a to b
  pub part_left : (a b : ℕ) → in_record a b ≡ true → (p : Part) {ps : List Part} → part_fits p ≡ true → part_characters p ≡ columns a b r → Left r b ps → Left r (a - 1) (p ∷ ps)
  part_left a b there p {ps} fit same h =
      let wide = columns_there a b there in
      let on : (a - 1) + (b - (a - 1)) ≡ b = omega arith in
      let tail = h.same ∙ sym (drop-drop (b - (a - 1)) (a - 1) r ∙ ap (λ n. drop n r) on) in
      record { fit = (fit, h.fit); same = ap (λ cs. cs ++ spread ps) same ∙ (ap (λ cs. columns a b r ++ cs) tail ∙ take-append-drop (b - (a - 1)) (drop (a - 1) r)) }

  pub plain_left : (a b : ℕ) → in_record a b ≡ true → {cs : List ℕ} {ps : List Part} → cs ≡ columns a b r → Left r b ps → Left r (a - 1) (plain cs ∷ ps)
  plain_left a b there {cs} same h = part_left a b there (plain cs) refl same h

  pub number_room : (a b : ℕ) → in_record a b ≡ true → all_digits (columns a b r) ≡ true → number_at a b r < 10 ^ (b - (a - 1))
  number_room a b there digits =
      subst (λ w. number_at a b r < 10 ^ w) (columns_long a b r long (columns_there a b there).2) (value_below (columns a b r) digits)

  pub number_left : (a b : ℕ) → in_record a b ≡ true → {n : ℕ} {ps : List Part} → all_digits (columns a b r) ≡ true → n ≡ number_at a b r → Left r b ps → Left r (a - 1) (spelled (b - (a - 1)) n ∷ ps)
  number_left a b there {n} digits is h =
      let wide = columns_long a b r long (columns_there a b there).2 in
      let fit = ap (λ m. fits (b - (a - 1)) m) is ∙ lt-ltb (number_at a b r) (10 ^ (b - (a - 1))) (number_room a b there digits) in
      let spelt = subst (λ w. decimal w (number_at a b r) ≡ columns a b r) wide (decimal_value (columns a b r) digits) in
      part_left a b there (spelled (b - (a - 1)) n) fit (ap (λ m. decimal (b - (a - 1)) m) is ∙ spelt) h

  pub spaces_left : (a b : ℕ) → in_record a b ≡ true → {ps : List Part} → blank (columns a b r) ≡ true → Left r b ps → Left r (a - 1) (spaces (b - (a - 1)) ∷ ps)
  spaces_left a b there free h =
      let wide = columns_long a b r long (columns_there a b there).2 in
      part_left a b there (spaces (b - (a - 1))) refl (sym (spaces_from_blank (columns a b r) free ∙ ap (λ w. replicate w 32) wide)) h
