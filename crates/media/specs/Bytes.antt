-- What the bytes of a volume mean: `rest` are the bytes from the byte place `p` on. Assumes nothing.
use Rattle.std.specs.Prelude.{◌≡◌, ℕ, zero, suc, ◌+◌, Bool, cond, List, [], ◌∷◌, length, take, drop, Some, None, Ok, Err, Option, Result, ◌==◌, nat_lt}
use Rattle.std.specs.Str.{bytes_eq}
use Rattle.charset.specs.Tables.{decoded}
use Rattle.charset.specs.declared.code_table.CodeTable.{CodeTable}
use Rattle.media.specs.Endings.{Ending, is_clean}
use Rattle.media.specs.Translation.{translated, first_without}
use Rattle.media.specs.Frames.{line_end, stride}
use Rattle.media.specs.declared.framing.Framing.{Framing}
use Rattle.media.specs.declared.carriers.Fault.{Fault}
use Rattle.media.specs.declared.volumes.VolumeFault.{VolumeFault}
use Rattle.media.specs.declared.volumes.VolumeFault.TheVariants.{Frame, Character}

-- what a volume tells of its fault: it is one volume, named 1
abbrev pub told : VolumeFault → Fault
told (Frame p) = record { number = 21; place = p; volume = 1 }
told (Character p) = record { number = 22; place = p; volume = 1 }

-- the characters that bytes read as, if each reads as one
abbrev pub read_all : CodeTable → List ℕ → ℕ → Option ℕ → Result (Option (List ℕ)) VolumeFault
read_all t bs p None = Ok (Some (translated (decoded t) bs))
read_all t bs p (Some i) = Err (Character (p + i))

-- the record that stands at p: none where the volume ends clean there, or what is wrong
abbrev pub standing : Framing → CodeTable → List ℕ → ℕ → Result (Option (List ℕ)) VolumeFault
standing f t rest p =
    cond (length rest == 0) (Ok None)
    (cond (nat_lt (length rest) (stride f)) (Err (Frame p))
    (cond (bytes_eq (take (length (line_end f)) (drop 80 rest)) (line_end f)) (read_all t (take 80 rest) p (first_without (decoded t) (take 80 rest) 0)) (Err (Frame (p + 80)))))

-- the records that come, and the ending after them
pub record Contents : Type 0 where
  pub records : List (List ℕ)
  pub ending : Ending

-- what stands at the front, and what comes later
abbrev pub before : Result (Option (List ℕ)) VolumeFault → Contents → Contents
before (Ok (Some r)) later = record { records = r ∷ later.records; ending = later.ending }
before (Ok None) later = record { records = []; ending = Ok tt }
before (Err fault) later = record { records = []; ending = Err (told fault) }

-- what the bytes hold from p on: there are no more turns to take than bytes
abbrev pub contents_in : ℕ → Framing → CodeTable → List ℕ → ℕ → Contents
contents_in zero f t rest p = record { records = []; ending = Ok tt }
contents_in (suc turns) f t rest p = before (standing f t rest p) (contents_in turns f t (drop (stride f) rest) (p + stride f))

abbrev pub contents : Framing → CodeTable → List ℕ → ℕ → Contents
contents f t rest p = contents_in (length rest) f t rest p

-- all bytes read as characters, or the place of the first that does not
abbrev pub Decodes : CodeTable → List ℕ → ℕ → Result (List ℕ) VolumeFault → Type 0
Decodes t bs p (Ok cs) = Ok (Some cs) ≡ read_all t bs p (first_without (decoded t) bs 0)
Decodes t bs p (Err fault) = Err fault ≡ read_all t bs p (first_without (decoded t) bs 0)

-- whether bytes are whole records and nothing else
abbrev pub reads_clean : Framing → CodeTable → List ℕ → Bool
reads_clean f t bs = is_clean (contents f t bs 0).ending
