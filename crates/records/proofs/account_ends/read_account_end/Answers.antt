use Rattle.std.proofs.Common.{rules}
use Rattle.records.proofs.Judging.{chain}
use Rattle.records.proofs.account_ends.read_account_end.Goals as goal

pub returns : goal.returns
returns c = search (rules, chain)
