use Rattle.std.proofs.Common.{rules}
use Rattle.composing.specs.Building.{so_far}
use Rattle.composing.proofs.composer.Composer.new.Goals as goal

pub returns : goal.returns
unfolding so_far
returns c = search rules
