use Rattle.std.proofs.Common.{rules}
use Rattle.records.proofs.Judging.{chain}
use Rattle.records.proofs.texts.read_text.Goals as goal

pub returns-in_err-ask : goal.returns-in_err-ask
returns-in_err-ask c = search (rules, chain)

pub returns-in_err-ask-2 : goal.returns-in_err-ask-2
returns-in_err-ask-2 c = search (rules, chain)
