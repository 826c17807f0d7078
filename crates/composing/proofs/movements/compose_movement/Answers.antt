use Rattle.std.proofs.Common.{rules}
use Rattle.composing.specs.Layouts.{movement_layout}
use Rattle.composing.specs.Parts.{composed}
use Rattle.composing.proofs.Building.{chain}
use Rattle.composing.proofs.Telling.{movement_told}
use Rattle.composing.proofs.movements.compose_movement.Goals as goal

pub returns-clause-tells : goal.returns-clause-tells
unfolding composed movement_layout
returns-clause-tells c = movement_told _ _ _ (search rules) (search (rules, chain))
