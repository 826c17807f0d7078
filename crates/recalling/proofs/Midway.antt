-- Tables that are checked in part: some of their records are taken, and the others are still to come. Assumes nothing.
use Rattle.std.proofs.Common.{◌≡◌, ℕ, ◌+◌, List, [], ◌∷◌, ◌++◌, length, map, None, Ok, Result, sym, ap, ◌∙◌, arith}
use Rattle.std.proofs.lemmas.List.{length-append, length-map, map-append}
use Rattle.composing.specs.Layouts.{file_end_layout}
use Rattle.composing.specs.Parts.{composed}
use Rattle.composing.specs.declared.refusals.Unfit.{Unfit}
use Rattle.reading.specs.Progress.{Progress, at_start}
use Rattle.rows.specs.Kept.{Rows}
use Rattle.recalling.specs.Checking.{trying, unless, walked, counted_unless, offering}
use Rattle.recalling.specs.Statements.{before_end, statement_records}
use Rattle.recalling.proofs.Composing.{walked_made, walked_is}

-- the records still to come, with the file end
abbrev pub and_end : Rows → List (Result (List ℕ) Unfit) → List (Result (List ℕ) Unfit)
and_end t left = left ++ (composed (file_end_layout (length (before_end t))) ∷ [])

-- before any is taken, these are the records of the statement
pub whole_made : (t : Rows) (left : List (Result (List ℕ) Unfit)) → left ≡ map composed (before_end t) → and_end t left ≡ map composed (statement_records t)
whole_made t left whole = ap (and_end t) whole ∙ sym (map-append composed (before_end t) (file_end_layout (length (before_end t)) ∷ []))

pub record Midway (t : Rows) (p : Progress) (left : List (Result (List ℕ) Unfit)) : Type 0 where
  pub same : walked_made p (and_end t left) ≡ walked at_start (statement_records t)
  pub all : p.taken + length left ≡ length (before_end t)

pub start : (t : Rows) (p : Progress) (left : List (Result (List ℕ) Unfit)) → p ≡ at_start → p.taken ≡ 0 → left ≡ map composed (before_end t) → Midway t p left
start t p left fresh none whole = record {
  same =
      ap (λ q. walked_made q (and_end t left)) fresh
      ∙ (ap (walked_made at_start) (whole_made t left whole) ∙ walked_is at_start (statement_records t));
  all = omega (arith, none, ap length whole, length-map (before_end t) composed);
}

-- no record is left but the file end, which is taken
pub taken_all : (t : Rows) (p : Progress) (left : List (Result (List ℕ) Unfit)) (end : Result (List ℕ) Unfit) → Midway t p left → left ≡ [] → end ≡ composed (file_end_layout p.taken) → None ≡ trying p end → offering t ≡ Ok (p.taken + 1)
taken_all t p left end m over made took =
    let number : length (before_end t) ≡ p.taken = omega (arith, m.all, ap length over) in
    let last = ap (λ l. walked_made p (and_end t l)) over ∙ ap (λ n. walked_made p (composed (file_end_layout n) ∷ [])) number in
    let none = sym m.same ∙ (last ∙ ap (λ x. unless x None) (ap (trying p) (sym made) ∙ sym took)) in
    ap (counted_unless (length (statement_records t))) none
    ∙ ap Ok (length-append (before_end t) (file_end_layout (length (before_end t)) ∷ []) ∙ ap (λ n. n + 1) number)
