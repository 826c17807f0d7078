-- What carriers and outputs mean. Assumes nothing.
use Rattle.std.specs.Prelude.{◌≡◌, ℕ, ◌+◌, min, Bool, true, false, cond, ◌&&◌, List, [], ◌∷◌, ◌++◌, length, Ok, Err, Result, ◌==◌}
use Rattle.charset.specs.Characters.{is_character}
use Rattle.media.specs.Endings.{Ending}
use Rattle.media.specs.declared.carriers.Fault.{Fault}
use Rattle.media.specs.declared.outputs.PutRefusal.{PutRefusal}
use Rattle.media.specs.declared.outputs.PutRefusal.TheVariants.{NotARecord, NoPlace}

abbrev pub all_characters : List ℕ → Bool
all_characters [] = true
all_characters (b ∷ bs) = is_character b && all_characters bs

-- a record is 80 characters
abbrev pub is_record : List ℕ → Bool
is_record r = length r == 80 && all_characters r

-- what drawing answers where no record is left
abbrev pub none_drawn : Ending → Result Bool Fault
none_drawn (Ok _) = Ok false
none_drawn (Err fault) = Err fault

-- drawing from a carrier that has these records left and this ending: what the caller's bytes and the records are after
abbrev pub Draws : List (List ℕ) → Ending → List ℕ → List (List ℕ) → List ℕ → Result Bool Fault → Type 0
Draws [] e into left after d = (d ≡ none_drawn e) × (left ≡ []) × (after ≡ into)
Draws (r ∷ rs) e into left after d = (d ≡ Ok true) × (left ≡ rs) × (after ≡ r) × (is_record r ≡ true)

-- a carrier that has no record left stays as it is
abbrev pub Stays : {S : Type 0} → S → S → Result Bool Fault → Type 0
Stays c c' (Ok true) = Unit {0}
Stays c c' (Ok false) = c' ≡ c
Stays c c' (Err fault) = c' ≡ c

-- volumes are counted up to 65,535
abbrev pub capped : ℕ → ℕ → ℕ
capped a b = min (a + b) 65535

-- a second carrier after a first, which has so many volumes: it is reached only if the first ends clean
abbrev pub joined_records : List (List ℕ) → Ending → List (List ℕ) → List (List ℕ)
joined_records first (Ok _) second = first ++ second
joined_records first (Err fault) second = first

abbrev pub behind : ℕ → Ending → Ending
behind volumes (Ok _) = Ok tt
behind volumes (Err fault) = Err (record { number = fault.number; place = fault.place; volume = capped volumes fault.volume })

abbrev pub joined_ending : Ending → ℕ → Ending → Ending
joined_ending (Ok _) volumes second = behind volumes second
joined_ending (Err fault) volumes second = Err fault

-- the answer to a put where so many places are left
abbrev pub putting : List ℕ → ℕ → Result (Unit {0}) PutRefusal
putting r places = cond (is_record r) (cond (places == 0) (Err NoPlace) (Ok tt)) (Err NotARecord)

-- the records put and the places left after that answer
abbrev pub Puts : List ℕ → Result (Unit {0}) PutRefusal → List (List ℕ) → ℕ → List (List ℕ) → ℕ → Type 0
Puts r (Ok _) put places put' places' = (put' ≡ put ++ (r ∷ [])) × (places' + 1 ≡ places)
Puts r (Err _) put places put' places' = (put' ≡ put) × (places' ≡ places)

-- what a refused put tells
abbrev pub put_number : PutRefusal → ℕ
put_number NotARecord = 23
put_number NoPlace = 24
