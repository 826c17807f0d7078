-- Layouts that are composed one by one. Assumes nothing.
use Rattle.std.proofs.Common.{◌≡◌, ℕ, List, [], ◌∷◌, length, map, true, Some, None, Option, Result, sym, refl, ap, ◌∙◌, arith}
use Rattle.std.specs.Iterator.{MakesProgress, YieldsFirst, item_count}
use Rattle.std.specs.List.{AllByRecursion}
use Rattle.std.proofs.lemmas.List.{nil_from_length, length-map}
use Rattle.media.specs.Meaning.{is_record}
use Rattle.composing.specs.Parts.{Part, composed}
use Rattle.composing.specs.declared.refusals.Unfit.{Unfit}
use Rattle.reading.specs.Progress.{Progress, after}
use Rattle.recalling.specs.Checking.{made_or_none, record_of, trying, unless, walked}
use Rattle.recalling.specs.Writing.{records_of}
use Rattle.recalling.specs.declared.refusals.TableRefusal.{TableRefusal}
use Rattle.recalling.proofs.Fitting.{Fit}

-- an iterator that yields what is left comes nearer to its end
pub nearer : {S A : Type 0} (rest : S → List A) (s : S) (r : Option A) (t : S) → YieldsFirst rest s r t → MakesProgress (λ (x : S). Unit {0}) (item_count rest) s r t
nearer rest s None t y = record { on = λ _. tt; keeps = tt; rests = λ _. tt }
nearer rest s (Some made) t y = record { on = λ _. (tt, tt, omega (arith, ap length y)); keeps = tt; rests = λ _. tt }

-- it may begin at another state with as much left
pub from_same : {S A : Type 0} (rest : S → List A) (s s' : S) (r : Option A) (t : S) → rest s ≡ rest s' → YieldsFirst rest s' r t → YieldsFirst rest s r t
from_same rest s s' None t e y = (e ∙ y.0, y.1)
from_same rest s s' (Some x) t e y = e ∙ y

pub first_made : (before : List (List Part)) (layout : List Part) (later : List (List Part)) (made : Result (List ℕ) Unfit) → before ≡ layout ∷ later → made ≡ composed layout → map composed before ≡ made ∷ map composed later
first_made before layout later made is done = ap (map composed) is ∙ ap (λ r. r ∷ map composed later) (sym done)

pub none_made : (layouts : List (List Part)) → map composed layouts ≡ [] → layouts ≡ []
none_made layouts none = nil_from_length layouts (sym (length-map layouts composed) ∙ ap length none)

-- what the definitions say of layouts, said of what they are composed to
abbrev pub walked_made : Progress → List (Result (List ℕ) Unfit) → Option TableRefusal
walked_made p [] = None
walked_made p (made ∷ rest) = unless (trying p made) (walked_made (after p (made_or_none made)) rest)

pub walked_is : (p : Progress) (layouts : List (List Part)) → walked_made p (map composed layouts) ≡ walked p layouts
walked_is p [] = refl
walked_is p (layout ∷ rest) = ap (unless (trying p (composed layout))) (walked_is (after p (record_of layout)) rest)

pub records_are : (layouts : List (List Part)) → map made_or_none (map composed layouts) ≡ records_of layouts
records_are [] = refl
records_are (layout ∷ rest) = ap (λ l. record_of layout ∷ l) (records_are rest)

abbrev pub FitMade : List (Result (List ℕ) Unfit) → Type 0
FitMade results = AllByRecursion (λ made. is_record (made_or_none made) ≡ true) results

pub fit_made : (layouts : List (List Part)) → Fit layouts → FitMade (map composed layouts)
fit_made [] h = tt
fit_made (layout ∷ rest) h = (h.0, fit_made rest h.1)
