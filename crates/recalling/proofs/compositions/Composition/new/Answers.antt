use Rattle.std.proofs.Common.{◌++◌, ap}
use Rattle.recalling.specs.Remaining.{remaining}
use Rattle.recalling.specs.Statements.{accounts_records}
use Rattle.recalling.proofs.compositions.Composition.new.Goals as goal

pub returns : goal.returns
unfolding remaining
returns c =
    let s = c.args.statement.now in
    ap (λ l. l ++ accounts_records s.accounts.now s.movements.now s.texts.now) c.new.ensures
