-- The 57 characters in their fixed order, each as its byte in code page 850. Assumes nothing.
use Rattle.std.specs.Prelude.{ℕ, Bool, List, ◌∷◌, ◌++◌, codes}
use Rattle.charset.specs.Coding.{among}

-- space, digits, letters, Ñ, signs
abbrev pub characters : List ℕ
characters = codes " 0123456789ABCDEFGHIJKLMNOPQRSTUVWXYZ" ++ (165 ∷ codes ".<(+&*);-/,%_>?:'=\"")

unfoldable pub is_character : ℕ → Bool
is_character b = among b characters
