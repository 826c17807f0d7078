use Rattle.std.proofs.Common.{◌≡◌, ◌+◌, length, replicate, refl, ap, ◌∙◌, arith, rules}
use Rattle.std.proofs.lemmas.List.{length-replicate}
use Rattle.composing.specs.Building.{so_far}
use Rattle.composing.specs.Parts.{spaces}
use Rattle.composing.proofs.Building.{length-behind, put}
use Rattle.composing.proofs.composer.Composer.spaces.Goals as goal

pub returns : goal.returns
unfolding so_far
returns c =
    let s = c.args.self in
    let width = c.args.width in
    let whole : length s.characters ≡ 80 = search rules in
    let blank = c.write_blank.ensures ∙ ap (λ n. replicate n 32) (length-behind s.characters s.filled width (omega arith)) in
    record {
      parts = put s.characters c.write_blank.new.field s.filled _ (s.filled + width) s.unfit (spaces width) (omega arith) (rw (blank, length-replicate) refl) blank refl;
      filled = refl;
    }
