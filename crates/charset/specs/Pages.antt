-- The two code tables that the holdings are written in, each by its bytes in the fixed order. Assumes nothing.
use Rattle.std.specs.Prelude.{ℕ, zero, suc, List, [], ◌∷◌, ◌++◌}
use Rattle.charset.specs.Characters.{characters}
use Rattle.charset.specs.declared.code_table.pages.CodePage.{CodePage}
use Rattle.charset.specs.declared.code_table.pages.CodePage.TheVariants.{Page850, Page284}

-- n bytes in a row, from b on
abbrev pub row : ℕ → ℕ → List ℕ
row b zero = []
row b (suc n) = b ∷ row (suc b) n

-- page 850: a character is its own byte
abbrev pub page_850 : List ℕ
page_850 = characters

-- EBCDIC page 284: space, digits, A to I, J to R, S to Z, Ñ, signs
abbrev pub page_284 : List ℕ
page_284 =
    0x40 ∷ (row 0xF0 10 ++ (row 0xC1 9 ++ (row 0xD1 9 ++ (row 0xE2 8 ++ (0x7B ∷
    (0x4B ∷ 0x4C ∷ 0x4D ∷ 0x4E ∷ 0x50 ∷ 0x5C ∷ 0x5D ∷ 0x5E ∷ 0x60 ∷ 0x61 ∷ 0x6B ∷ 0x6C ∷ 0x6D ∷ 0x6E ∷ 0x6F ∷ 0x7A ∷ 0x7D ∷ 0x7E ∷ 0x7F ∷ []))))))

-- the bytes of a code page
abbrev pub page_bytes : CodePage → List ℕ
page_bytes Page850 = page_850
page_bytes Page284 = page_284
