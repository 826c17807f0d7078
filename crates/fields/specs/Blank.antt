-- Blank fields. Assumes nothing.
use Rattle.std.specs.Prelude.{ℕ, Bool, true, ◌&&◌, List, [], ◌∷◌, ◌==◌}

-- nothing but spaces
abbrev pub blank : List ℕ → Bool
blank [] = true
blank (b ∷ bs) = b == 32 && blank bs
