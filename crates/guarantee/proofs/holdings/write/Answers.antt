use Rattle.rows.specs.Kept.{rows_lent}
use Rattle.guarantee.proofs.Wholes.{writes_back}
use Rattle.guarantee.proofs.holdings.write.Goals as goal

pub returns-clause-back : goal.returns-clause-back
returns-clause-back g c = λ records file is enough. writes_back records file (rows_lent c.args.statement.now) _ _ _ _ _ is enough c.write.ensures.answer c.write.ensures.written
