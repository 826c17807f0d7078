use Rattle.guarantee.proofs.Promised.{says, promised}
use Rattle.guarantee.proofs.audits.audit.Goals as goal

pub returns-clause-promises : goal.returns-clause-promises
returns-clause-promises g c =
    let f = c.read-first.ensures in
    let s = c.read-second.ensures in
    let one = says _ _ _ _ _ _ f.whole f.kept in
    let two = says _ _ _ _ _ _ s.whole s.kept in
    promised _ one two _ _ _ c.run-ran.ensures.ran _ _ _ _ c.statement.ensures c.write-written.ensures.back
