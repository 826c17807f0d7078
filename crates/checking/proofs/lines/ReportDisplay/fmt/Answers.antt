use Rattle.std.proofs.Common.{◌≡◌, ℕ, List, [], ◌∷◌, ◌++◌, refl, sym, ap, subst, ◌∙◌}
use Rattle.std.specs.Fmt.{HasWritten, styled_decimal}
use Rattle.checking.specs.Lines.{justified, refusal_part, line_of}
use Rattle.checking.proofs.Justifying.{in_columns, in_line}
use Rattle.checking.proofs.lines.ReportDisplay.fmt.Goals as goal
use Rattle.checking.proofs.lines.ReportDisplay.fmt.Goals.{in-Some, in-None}

-- the four numbers of a refusal
abbrev front : ℕ × ℕ × ℕ × ℕ → List ℕ
front q = justified 2 q.0 ++ (justified 3 q.1 ++ (justified 8 q.2 ++ justified 8 q.3))

pub returns-clause-writes : goal.returns-clause-writes
returns-clause-writes g c plain ok =
    let back = justified 7 c.args.self.now.accounts ++ (justified 7 c.args.self.now.movements ++ (10 ∷ [])) in
    let q = c.match-self.layer in
    let line = in_line _ _ _ _ _ _ _ _ _ _ _ _ (10 ∷ [])
    (ap (λ s. styled_decimal s q.0) c.laid_out.ensures ∙ in_columns 2 q.0 refl)
    (ap (λ s. styled_decimal s q.1) c.laid_out-2.ensures ∙ in_columns 3 q.1 refl)
    (ap (λ s. styled_decimal s q.2) c.laid_out-3.ensures ∙ in_columns 8 q.2 refl)
    (ap (λ s. styled_decimal s q.3) c.laid_out-4.ensures ∙ in_columns 8 q.3 refl)
    (ap (λ s. styled_decimal s c.args.self.now.accounts) c.laid_out-5.ensures ∙ in_columns 7 c.args.self.now.accounts refl)
    (ap (λ s. styled_decimal s c.args.self.now.movements) c.laid_out-6.ensures ∙ in_columns 7 c.args.self.now.movements refl) in
    let told : front q ++ back ≡ line_of c.args.self.now = elim c.match-self.branch [
      | in-Some w ↦ ap (λ q. front q ++ back) w.layer-is ∙ (ap (λ n. front (n, w.in-Some.n.number, w.in-Some.n.«record», w.in-Some.n.place) ++ back) w.number.ensures ∙ ap (λ n. refusal_part n ++ back) (sym w.in-Some.is))
      | in-None w ↦ ap (λ q. front q ++ back) w.layer-is ∙ ap (λ n. refusal_part n ++ back) (sym w.in-None.is)
    ] in
    subst (λ bytes. HasWritten g.W.Write.write_str_gives c.args.f.now bytes c.writeln.new.self) (line ∙ told) (c.writeln.ensures.writes plain ok)
