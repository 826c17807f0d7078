-- The line that `check` prints. Assumes nothing.
use Rattle.std.specs.Prelude.{ℕ, ◌-◌, List, [], ◌∷◌, ◌++◌, length, replicate, Some, None, decimal, Option}
use Rattle.rows.specs.Layers.{layer_number}
use Rattle.rows.specs.declared.notices.Notice.{Notice}
use Rattle.checking.specs.declared.lines.Report.{Report}

-- a number at the right of so many columns
abbrev pub justified : ℕ → ℕ → List ℕ
justified width n = replicate (width - length (decimal n)) 32 ++ decimal n

-- layer, number, record and place, which are 0 where nothing was refused
abbrev pub refusal_part : Option Notice → List ℕ
refusal_part None = justified 2 0 ++ (justified 3 0 ++ (justified 8 0 ++ justified 8 0))
refusal_part (Some n) = justified 2 (layer_number n.layer) ++ (justified 3 n.number ++ (justified 8 n.«record» ++ justified 8 n.place))

-- then accounts, movements and a line feed
abbrev pub line_of : Report → List ℕ
line_of r = refusal_part r.notice ++ (justified 7 r.accounts ++ (justified 7 r.movements ++ (10 ∷ [])))
