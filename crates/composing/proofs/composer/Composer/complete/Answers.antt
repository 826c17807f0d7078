use Rattle.std.proofs.Common.{◌≡◌, ℕ, ◌≤◌, List, length, Some, None, Ok, Err, Option, Result, MatchOption, sym, ap, ◌∙◌, arith, rules}
use Rattle.std.proofs.lemmas.List.{take_all}
use Rattle.composing.specs.Building.{so_far, unless_unfit}
use Rattle.composing.specs.declared.refusals.Unfit.{Unfit}
use Rattle.composing.proofs.composer.Composer.complete.Goals as goal

whole_record : (cs : List ℕ) (u : Option Unfit) (r : Result (List ℕ) Unfit) → MatchOption u (r ≡ Ok cs) (λ e. r ≡ Err e) → r ≡ unless_unfit cs u
whole_record cs None r is = is
whole_record cs (Some e) r is = is

pub returns : goal.returns
unfolding so_far
returns c =
    let s = c.args.self in
    let whole : length s.characters ≡ 80 = search rules in
    let all : length s.characters ≤ s.filled = omega arith in
    let told : MatchOption s.unfit (c.map_or.result ≡ Ok s.characters) (λ e. c.map_or.result ≡ Err e) = search rules in
    whole_record _ _ _ told ∙ ap (λ cs. unless_unfit cs s.unfit) (sym (take_all s.filled s.characters all))
