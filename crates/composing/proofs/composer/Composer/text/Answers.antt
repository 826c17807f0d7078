use Rattle.std.proofs.Common.{◌≡◌, ◌+◌, length, refl, arith, rules}
use Rattle.composing.specs.Building.{so_far}
use Rattle.composing.specs.Parts.{plain}
use Rattle.composing.proofs.Building.{put}
use Rattle.composing.proofs.composer.Composer.text.Goals as goal

pub returns : goal.returns
unfolding so_far
returns c =
    let s = c.args.self in
    let part = c.args.part.now in
    let whole : length s.characters ≡ 80 = search rules in
    let e = c.copy_from_slice.ensures.after in
    record {
      parts = put s.characters c.copy_from_slice.new.self s.filled _ (s.filled + length part) s.unfit (plain part) (omega arith) (rw e refl) e refl;
      filled = refl;
    }
