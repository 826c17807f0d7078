use Rattle.std.proofs.Common.{◌≡◌, length}
use Rattle.reading.specs.Progress.{progress}
use Rattle.archiving.proofs.Midway.{Midway}
use Rattle.archiving.proofs.reads.read.Given as goal

abbrev pub invariant-loop-reading : goal.invariant-loop-reading
invariant-loop-reading g l =
    Midway l.initial.tables l.tables (progress l.reading) (g.C.Carrier.records l.initial.carrier) (g.C.Carrier.records l.carrier) (g.C.Carrier.ending l.initial.carrier)
    × (g.C.Carrier.ending l.carrier ≡ g.C.Carrier.ending l.initial.carrier)
    × (g.C.Carrier.volumes l.carrier ≡ g.C.Carrier.volumes l.initial.carrier)

abbrev pub decreases-loop-reading : goal.decreases-loop-reading
decreases-loop-reading g l = length (g.C.Carrier.records l.carrier)
