use Rattle.std.proofs.Common.{rules}
use Rattle.records.proofs.Marks.{marks}
use Rattle.records.proofs.accounts.read_account.Goals as goal

pub returns : goal.returns
returns c = search (rules, marks)
