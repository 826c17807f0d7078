-- How many texts a phase has seen. Assumes nothing.
use Rattle.std.specs.Prelude.{ℕ}
use Rattle.reading.specs.declared.phases.Phase.{Phase}
use Rattle.reading.specs.declared.phases.Phase.TheVariants.{Start, Between, Opened, Texts, Converted, Ended}

abbrev pub texts_of : Phase → ℕ
texts_of Start = 0
texts_of Between = 0
texts_of Opened = 0
texts_of (Texts n) = n
texts_of Converted = 0
texts_of Ended = 0
