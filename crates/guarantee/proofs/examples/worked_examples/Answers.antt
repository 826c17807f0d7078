use Rattle.guarantee.proofs.Worked.{worked}
use Rattle.guarantee.proofs.examples.worked_examples.Goals as goal

pub returns : goal.returns
returns c = worked
