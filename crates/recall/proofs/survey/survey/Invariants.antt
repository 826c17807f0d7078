use Rattle.std.proofs.Common.{length}
use Rattle.recall.proofs.survey.survey.Given as goal

-- each turn draws one of the records left
abbrev pub decreases-loop-kinds : goal.decreases-loop-kinds
decreases-loop-kinds g l = length (g.C.Carrier.records l.carrier)
