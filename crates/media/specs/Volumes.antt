-- What a volume means: its bytes from its position on. Assumes nothing.
use Rattle.std.specs.Prelude.{ℕ, List, drop, Option, Result}
use Rattle.media.specs.Bytes.{Contents, standing, contents}
use Rattle.media.specs.declared.volumes.Volume.{Volume}
use Rattle.media.specs.declared.volumes.VolumeFault.{VolumeFault}

abbrev pub rest_of : Volume → List ℕ
rest_of v = drop v.position v.bytes.now

abbrev pub contents_of : Volume → Contents
contents_of v = contents v.framing v.table (rest_of v) v.position

-- what stands at a volume's position
abbrev pub looked : Volume → Result (Option (List ℕ)) VolumeFault
looked v = standing v.framing v.table (rest_of v) v.position
