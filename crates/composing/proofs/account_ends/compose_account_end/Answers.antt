use Rattle.std.proofs.Common.{rules}
use Rattle.composing.specs.Layouts.{account_end_layout}
use Rattle.composing.specs.Parts.{composed}
use Rattle.composing.proofs.Building.{chain}
use Rattle.composing.proofs.Telling.{account_end_told}
use Rattle.composing.proofs.account_ends.compose_account_end.Goals as goal

pub returns-clause-tells : goal.returns-clause-tells
unfolding composed account_end_layout
returns-clause-tells c = account_end_told _ _ (search (rules, chain))
