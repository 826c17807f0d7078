use Rattle.std.proofs.Common.{rules}
use Rattle.records.proofs.Judging.{chain}
use Rattle.records.proofs.file_ends.read_file_end.Goals as goal

pub returns-in_err-ask : goal.returns-in_err-ask
returns-in_err-ask c = search (rules, chain)
