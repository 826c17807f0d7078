-- What a code table means: its 57 bytes, in the fixed order of the characters. Assumes nothing.
use Rattle.std.specs.Prelude.{◌≡◌, ℕ, false, cond, List, length, Some, None, Ok, Err, Option, Result, ◌==◌, ◌≢◌}
use Rattle.charset.specs.Characters.{characters, is_character}
use Rattle.charset.specs.Coding.{lookup, first_repeat}
use Rattle.charset.specs.declared.code_table.CodeTable.{CodeTable}
use Rattle.charset.specs.declared.code_table.CodeTableRefusal.{CodeTableRefusal}
use Rattle.charset.specs.declared.code_table.CodeTableRefusal.TheVariants.{Length, Repeat}

-- the byte of each character, in order
abbrev pub bytes_of : CodeTable → List ℕ
bytes_of t = t.bytes

-- a byte reads as the character at its place
abbrev pub decoded : CodeTable → ℕ → Option ℕ
decoded t byte = lookup (bytes_of t) characters byte

-- a character is written as the byte at its place
abbrev pub encoded : CodeTable → ℕ → Option ℕ
encoded t character = lookup characters (bytes_of t) character

-- whether a list of bytes makes a code table: first its length is asked, then whether a byte comes twice
abbrev pub repeated : Option ℕ → Result (Unit {0}) CodeTableRefusal
repeated None = Ok tt
repeated (Some place) = Err (Repeat place)

abbrev pub making : List ℕ → Result (Unit {0}) CodeTableRefusal
making bytes = cond (length bytes == 57) (repeated (first_repeat bytes)) (Err Length)

-- the table made of 57 bytes
abbrev pub Makes : List ℕ → Result CodeTable CodeTableRefusal → Type 0
Makes bytes (Ok t) = (bytes_of t ≡ bytes) × (first_repeat bytes ≡ None)
Makes bytes (Err e) = Err e ≡ repeated (first_repeat bytes)

-- the caller's table after it is made anew: a refusal leaves it as it was
abbrev pub Made : CodeTable → List ℕ → CodeTable → Result (Unit {0}) CodeTableRefusal → Type 0
Made before bytes after (Ok _) = bytes_of after ≡ bytes
Made before bytes after (Err _) = after ≡ before

-- a character's byte reads as that character, and no other byte does
abbrev pub ReadsBack : CodeTable → ℕ → Option ℕ → Type 0
ReadsBack t character None = is_character character ≡ false
ReadsBack t character (Some byte) = decoded t byte ≡ Some character

abbrev pub WritesBack : CodeTable → ℕ → Option ℕ → Type 0
WritesBack t byte None = (character : ℕ) → encoded t character ≢ Some byte
WritesBack t byte (Some character) = encoded t character ≡ Some byte

-- what a refusal tells
abbrev pub refusal_number : CodeTableRefusal → ℕ
refusal_number Length = 26
refusal_number (Repeat place) = 25

abbrev pub refusal_place : CodeTableRefusal → Option ℕ
refusal_place Length = None
refusal_place (Repeat place) = Some place
