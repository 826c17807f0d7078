use Rattle.std.proofs.Common.{◌≡◌, length}
use Rattle.media.proofs.Midway.{Midway}
use Rattle.media.proofs.copying.copy.Given as goal

abbrev pub invariant-loop-output : goal.invariant-loop-output
invariant-loop-output g l =
    Midway (g.C.Carrier.records l.initial.carrier) (g.C.Carrier.records l.carrier) (g.O.Output.put l.initial.output) (g.O.Output.put l.output) (g.O.Output.places l.initial.output) (g.O.Output.places l.output)
    × (g.C.Carrier.ending l.carrier ≡ g.C.Carrier.ending l.initial.carrier)
    × (g.C.Carrier.volumes l.carrier ≡ g.C.Carrier.volumes l.initial.carrier)

abbrev pub decreases-loop-output : goal.decreases-loop-output
decreases-loop-output g l = length (g.C.Carrier.records l.carrier)
