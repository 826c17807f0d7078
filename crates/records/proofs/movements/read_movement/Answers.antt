use Rattle.std.proofs.Common.{rules}
use Rattle.records.proofs.Judging.{chain}
use Rattle.records.proofs.movements.read_movement.Goals as goal

pub returns : goal.returns
returns c = search (rules, chain)
