-- A run of calls on a reading, midway: what its answers say of the records taken. Assumes nothing.
use Rattle.std.proofs.Common.{◌≡◌, ℕ, ◌+◌, ◌<◌, ◌≤◌, ◌↔◌, List, [], ◌∷◌, ◌++◌, length, get_or, take, Some, None, Ok, Err, Option, Result, sym, refl, ap, ◌∙◌, subst, arith, Bor}
use Rattle.std.specs.Result.{result_err}
use Rattle.std.proofs.lemmas.List.{append_assoc, append-nil, take_more}
use Rattle.reading.specs.Progress.{Progress, progress, at_start, refused}
use Rattle.reading.specs.Taken.{After, kind_told, refusal_of, closing}
use Rattle.reading.specs.declared.entries.Entry.{Entry}
use Rattle.reading.specs.declared.phases.Phase.{Phase}
use Rattle.reading.specs.declared.phases.Phase.TheVariants.{Start, Between, Opened, Texts, Converted, Ended}
use Rattle.reading.specs.declared.readings.Reading.{Reading}
use Rattle.reading.specs.declared.refusals.Cause.TheVariants.{Unfinished}
use Rattle.reading.specs.declared.refusals.Refusal.{Refusal}
use Rattle.reading.proofs.Progress.{refused_is, moved_after}
use Rattle.table.specs.Rows.{held, Pushed, Fills}
use Rattle.table.proofs.Filling.{pushed, onward}
use Rattle.guarantee.specs.Files.{CorrectFile, Begins}
use Rattle.guarantee.specs.Runs.{Refused, OfferAnswered, CloseAnswered, Answered, taken_with, Lawful}
use Rattle.guarantee.specs.declared.runs.Call.{Call}
use Rattle.guarantee.specs.declared.runs.Call.TheVariants.{Offer, Close}
use Rattle.guarantee.proofs.Offers.{refused_number}
use Rattle.guarantee.proofs.Laws.{Standing, standing_start, standing_after, begins, taken_begins, close_correct}

-- an answer that is granted exactly where something holds is a refusal exactly where it does not
refused_exactly : {P : Type 0} (x : Option Refusal) → (x ≡ None) ↔ P → Refused x ↔ (P → ⊥)
refused_exactly None g = ((λ r. let z : ◌≡◌ {A = ℕ} 0 1 = cc r.1 in absurd (omega arith)), (λ not. absurd (not (g.0 refl))))
refused_exactly (Some r) g = ((λ _ h. let e = g.1 h in let z : ◌≡◌ {A = ℕ} 0 1 = cc in omega arith), (λ _. (r, refl)))

offer_answered : {p : Progress} {taken : List (List ℕ)} → Standing p taken → (o : List ℕ) (x : Option Refusal) → x ≡ refused p o → OfferAnswered taken o x
offer_answered {p} {taken} s o x is =
    let granted : (x ≡ None) ↔ Begins (taken ++ (o ∷ [])) = ((λ h. (taken_begins s o).0 (sym is ∙ h)), (λ b. is ∙ (taken_begins s o).1 b)) in
    record {
      granted = granted;
      refused = refused_exactly x granted;
      number = λ refusal h. refused_number p o refusal (sym is ∙ h) ∙ ap (λ n. n + 1) s.many;
    }

-- a record that is taken is one more, and a refusal changes nothing
still_standing : (s s' : Reading) {taken : List (List ℕ)} → Standing (progress s) taken → (o : Bor (List ℕ)) (r : Result Entry Refusal) → result_err r ≡ refusal_of s o.now → After s s' o.now r → Standing (progress s') (taken_with taken (Offer o) (result_err r))
still_standing s s' {taken} st o (Ok e) told moved = subst (λ p. Standing p (taken ++ (o.now ∷ []))) (sym (moved_after s s' o.now (kind_told e) moved)) (standing_after st o.now (sym (told ∙ refused_is s o.now)))
still_standing s s' {taken} st o (Err x) told same = subst (λ t. Standing (progress t) taken) (sym same) st

-- a close grants, or refuses as unfinished
closed_so : (phase : Phase) (n : ℕ) (refusal : Refusal) → result_err (closing phase n) ≡ Some refusal → refusal ≡ record { cause = Unfinished; «record» = n + 1 }
closed_so Start n refusal h = cc
closed_so Between n refusal h = cc
closed_so Opened n refusal h = cc
closed_so (Texts k) n refusal h = cc
closed_so Converted n refusal h = cc
closed_so Ended n refusal h = cc

err_none : (r : Result (Unit {0}) Refusal) → (result_err r ≡ None) ↔ (r ≡ Ok tt)
err_none (Ok tt) = ((λ _. refl), (λ _. refl))
err_none (Err e) = ((λ h. absurd (let z : ◌≡◌ {A = ℕ} 0 1 = cc in omega arith)), (λ h. absurd (let z : ◌≡◌ {A = ℕ} 0 1 = cc in omega arith)))

close_answered : {p : Progress} {taken : List (List ℕ)} → Standing p taken → (x : Option Refusal) → x ≡ result_err (closing p.phase p.taken) → CloseAnswered taken x
close_answered {p} {taken} s x is =
    let none = err_none (closing p.phase p.taken) in
    let granted : (x ≡ None) ↔ CorrectFile taken = ((λ h. (close_correct s).0 (none.0 (sym is ∙ h))), (λ c. is ∙ none.1 ((close_correct s).1 c))) in
    record {
      granted = granted;
      refused = refused_exactly x granted;
      unfinished = λ refusal h. closed_so p.phase p.taken refusal (sym is ∙ h) ∙ ap (λ n. record { cause = Unfinished; «record» = n + 1 }) s.many;
    }

-- a run midway: the reading stands for the records taken, and where calls to come are answered lawfully, so are all
pub record Midway (made : List Call) (answers : List (Option Refusal)) (p : Progress) : Type 0 where
  pub taken : List (List ℕ)
  pub standing : Standing p taken
  pub whole : (rest : List Call) (more : List (Option Refusal)) → Lawful taken rest more → Lawful [] (made ++ rest) (answers ++ more)

pub started : (s : Reading) → progress s ≡ at_start → Midway [] [] (progress s)
started s new = record { taken = []; standing = subst (λ p. Standing p []) (sym new) standing_start; whole = λ rest more l. l }

-- one call more is answered
module _ {made : List Call} {answers : List (Option Refusal)} where
  answered : {p : Progress} (call : Call) (m : Midway made answers p) (x : Option Refusal) (q : Progress) → Answered m.taken call x → Standing q (taken_with m.taken call x) → Midway (made ++ (call ∷ [])) (answers ++ (x ∷ [])) q
  answered call m x q a s = record {
    taken = taken_with m.taken call x;
    standing = s;
    whole = λ rest more l. rw (append_assoc made (call ∷ []) rest, append_assoc answers (x ∷ []) more) (m.whole (call ∷ rest) (x ∷ more) (begins m.standing, a, l));
  }

  pub offered : (s : Reading) (o : Bor (List ℕ)) → Midway made answers (progress s) → (x : Option Refusal) → x ≡ refusal_of s o.now → (s' : Reading) (r : Result Entry Refusal) → result_err r ≡ refusal_of s o.now → After s s' o.now r → Midway (made ++ (Offer o ∷ [])) (answers ++ (x ∷ [])) (progress s')
  offered s o m x is s' r told moved =
      let a = offer_answered m.standing o.now (result_err r) (told ∙ refused_is s o.now) in
      rw (is ∙ sym told) (answered (Offer o) m (result_err r) (progress s') a (still_standing s s' m.standing o r told moved))

  pub closed : {p : Progress} → Midway made answers p → (x : Option Refusal) → x ≡ result_err (closing p.phase p.taken) → Midway (made ++ (Close ∷ [])) (answers ++ (x ∷ [])) p
  closed {p} m x is = answered Close m x p (close_answered m.standing x is) m.standing

  -- no call is to come
  pub ended : {p : Progress} → Midway made answers p → Lawful [] made answers
  ended m = rw (sym (append-nil made), sym (append-nil answers)) (m.whole [] [] (begins m.standing))

-- the calls made, one more
pub made_more : (calls : List Call) (i : ℕ) (d call : Call) → i < length calls → get_or calls i d ≡ call → take (i + 1) calls ≡ take i calls ++ (call ∷ [])
made_more calls i d call more is = take_more calls i d more ∙ ap (λ c. take i calls ++ (c ∷ [])) is

-- the table of answers, one answer more
pub entered_more : {A : Type 0} (given rows : List A) (filled : ℕ) (x : A) (rows' : List A) (filled' : ℕ) → filled ≤ length rows → Fills given rows filled (held rows filled) → Pushed rows filled x rows' filled' (Ok tt) → (held rows' filled' ≡ held rows filled ++ (x ∷ [])) × Fills given rows' filled' (held rows' filled')
entered_more given rows filled x rows' filled' fits f p =
    let more = pushed rows filled x rows' filled' fits p in
    (more.front, subst (Fills given rows' filled') (sym more.front) (onward given rows rows' filled filled' (held rows filled) (held rows filled ++ (x ∷ [])) f more (omega (arith, p.2))))
