-- How records lie in the bytes of a volume. Assumes nothing.
use Rattle.std.specs.Prelude.{ℕ, ◌+◌, List, [], ◌∷◌, length}
use Rattle.media.specs.declared.framing.Framing.{Framing}
use Rattle.media.specs.declared.framing.Framing.TheVariants.{Lines, Blocks}

-- the bytes that end a record
abbrev pub line_end : Framing → List ℕ
line_end Lines = 13 ∷ 10 ∷ []
line_end Blocks = []

-- the bytes that a record takes with its end
abbrev pub stride : Framing → ℕ
stride f = 80 + length (line_end f)
