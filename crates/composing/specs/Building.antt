-- What a composer has composed so far. Assumes nothing.
use Rattle.std.specs.Prelude.{ℕ, List, take, Some, None, Ok, Err, Option, Result}
use Rattle.composing.specs.declared.composer.Composer.{Composer}
use Rattle.composing.specs.declared.refusals.Unfit.{Unfit}

abbrev pub unless_unfit : List ℕ → Option Unfit → Result (List ℕ) Unfit
unless_unfit cs None = Ok cs
unless_unfit cs (Some e) = Err e

unfoldable pub so_far : Composer → Result (List ℕ) Unfit
so_far c = unless_unfit (take c.filled c.characters) c.unfit
