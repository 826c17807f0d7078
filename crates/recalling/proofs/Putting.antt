-- A checked statement that is put in part. Assumes nothing.
use Rattle.std.proofs.Common.{◌≡◌, ℕ, ◌+◌, ◌≤◌, List, [], ◌∷◌, ◌++◌, length, map, Ok, Result, sym, ap, ◌∙◌, subst, arith}
use Rattle.std.proofs.lemmas.List.{append_assoc, length-map}
use Rattle.composing.specs.Parts.{composed}
use Rattle.composing.specs.declared.refusals.Unfit.{Unfit}
use Rattle.rows.specs.Kept.{Rows}
use Rattle.recalling.specs.Checking.{made_or_none, checking}
use Rattle.recalling.specs.Statements.{before_end, statement_records}
use Rattle.recalling.specs.Writing.{records_of}
use Rattle.recalling.proofs.Composing.{records_are, FitMade, fit_made}
use Rattle.recalling.proofs.Fitting.{checked}
use Rattle.recalling.proofs.Midway.{and_end, whole_made}

-- some records are put, and the others, with the file end, have their places
pub record Midway (t : Rows) (put put' : List (List ℕ)) (places places' n : ℕ) (left : List (Result (List ℕ) Unfit)) : Type 0 where
  pub same : put' ++ map made_or_none (and_end t left) ≡ put ++ records_of (statement_records t)
  pub room : places' + n ≡ places + (length left + 1)
  pub enough : n ≤ places
  pub number : n ≡ length (before_end t) + 1
  pub fit : FitMade (and_end t left)

pub start : (t : Rows) (put : List (List ℕ)) (places n : ℕ) (left : List (Result (List ℕ) Unfit)) → checking t ≡ Ok n → n ≤ places → left ≡ map composed (before_end t) → Midway t put put places places n left
start t put places n left ok enough whole =
    let known = checked t n ok in
    let all = whole_made t left whole in
    record {
      same = ap (λ l. put ++ map made_or_none l) all ∙ ap (λ l. put ++ l) (records_are (statement_records t));
      room = omega (arith, known.1, ap length whole, length-map (before_end t) composed);
      enough = enough;
      number = known.1;
      fit = subst FitMade (sym all) (fit_made (statement_records t) known.0);
    }

-- one record more is put
pub more : (t : Rows) (put put' put'' : List (List ℕ)) (places places' places'' n : ℕ) (left rest : List (Result (List ℕ) Unfit)) (made : Result (List ℕ) Unfit) → Midway t put put' places places' n left → left ≡ made ∷ rest → put'' ≡ put' ++ (made_or_none made ∷ []) → places'' + 1 ≡ places' → Midway t put put'' places places'' n rest
more t put put' put'' places places' places'' n left rest made m is added used = record {
  same =
      ap (λ l. l ++ map made_or_none (and_end t rest)) added
      ∙ (append_assoc put' (made_or_none made ∷ []) (map made_or_none (and_end t rest)) ∙ (ap (λ l. put' ++ map made_or_none (and_end t l)) (sym is) ∙ m.same));
  room = omega (arith, m.room, ap length is);
  enough = m.enough;
  number = m.number;
  fit = (subst (λ l. FitMade (and_end t l)) is m.fit).1;
}
