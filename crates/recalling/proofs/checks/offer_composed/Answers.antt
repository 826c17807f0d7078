use Rattle.std.proofs.Common.{rules, ◌≡◌, ℕ, List, Some, Ok, Option, Result, sym, ap, ◌∙◌}
use Rattle.std.specs.Option.{option_map}
use Rattle.std.specs.Result.{result_err}
use Rattle.composing.specs.declared.refusals.Unfit.{Unfit}
use Rattle.reading.specs.Progress.{progress, after}
use Rattle.reading.specs.Taken.{refusal_of}
use Rattle.reading.specs.declared.readings.Reading.{Reading}
use Rattle.reading.specs.declared.refusals.Refusal.{Refusal}
use Rattle.reading.proofs.Progress.{refused_is, moved_after}
use Rattle.recalling.specs.Checking.{made_or_none, trying}
use Rattle.recalling.specs.declared.refusals.TableRefusal.TheVariants.{Refused}
use Rattle.recalling.proofs.checks.offer_composed.Goals as goal

tried : (s : Reading) (o : List ℕ) (x : Option Refusal) (composed : Result (List ℕ) Unfit) → composed ≡ Ok o → x ≡ refusal_of s o → option_map Refused x ≡ trying (progress s) composed
tried s o x composed is told = ap (option_map Refused) (told ∙ refused_is s o) ∙ ap (trying (progress s)) (sym is)

pub returns-in_err-offer-clause-refusal : goal.returns-in_err-offer-clause-refusal
returns-in_err-offer-clause-refusal c =
    let is : c.args.composed ≡ Ok c.in_ok-characters.characters = search rules in
    let told : result_err c.from_residual-in_err-offer.result ≡ Some (Refused c.in_err-offer.field-0.0) = search rules in
    told ∙ tried c.args.reading.now _ _ _ is c.in_err-offer.ensures.refusal

pub returns-clause-refusal : goal.returns-clause-refusal
returns-clause-refusal c =
    let is : c.args.composed ≡ Ok c.in_ok-characters.characters = search rules in
    tried c.args.reading.now _ _ _ is c.in_ok-offer.ensures.refusal

pub returns-clause-after : goal.returns-clause-after
returns-clause-after c =
    let s = c.args.reading.now in
    let is : c.args.composed ≡ Ok c.in_ok-characters.characters = search rules in
    moved_after s _ _ _ c.in_ok-offer.ensures.after ∙ ap (λ x. after (progress s) (made_or_none x)) (sym is)
