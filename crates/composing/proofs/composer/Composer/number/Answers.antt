use Rattle.std.proofs.Common.{◌≡◌, ◌+◌, true, false, length, sym, refl, ap, ◌∙◌, arith, rules}
use Rattle.fields.specs.Decimal.{fits, decimal}
use Rattle.fields.proofs.Decimal.{length-decimal}
use Rattle.std.proofs.lemmas.Bool.{cond-true}
use Rattle.composing.specs.Building.{so_far, unless_unfit}
use Rattle.composing.specs.Parts.{spelled}
use Rattle.composing.proofs.Building.{length-behind, put, refused}
use Rattle.composing.proofs.composer.Composer.number.Goals as goal

pub returns-then-is_err : goal.returns-then-is_err
unfolding so_far
returns-then-is_err c =
    let s = c.args.self in
    let width = c.args.width in
    let n = c.args.number in
    let whole : length s.characters ≡ 80 = search rules in
    let long = length-behind s.characters s.filled width (omega arith) in
    let unfit : fits width n ≡ false = ap (λ w. fits w n) (sym long) ∙ search rules in
    record { parts = ap (unless_unfit _) c.or-self.ensures ∙ refused s.characters _ s.filled s.unfit (spelled width n) (omega arith) unfit; filled = refl }

pub returns-else-is_err : goal.returns-else-is_err
unfolding so_far
returns-else-is_err c =
    let s = c.args.self in
    let width = c.args.width in
    let n = c.args.number in
    let whole : length s.characters ≡ 80 = search rules in
    let long = length-behind s.characters s.filled width (omega arith) in
    let fit : fits width n ≡ true = ap (λ w. fits w n) (sym long) ∙ search rules in
    let digits = c.write_number.ensures.written ∙ (cond-true (fits _ n) _ _ (search rules) ∙ ap (λ w. decimal w n) long) in
    record {
      parts = put s.characters c.write_number.new.field s.filled _ (s.filled + width) s.unfit (spelled width n) (omega arith) (rw (digits, length-decimal width n) refl) digits fit;
      filled = refl;
    }
