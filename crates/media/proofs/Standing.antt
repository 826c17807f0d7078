-- What stands at a byte place, question by question. Assumes nothing.
use Rattle.std.proofs.Common.{◌≡◌, ℕ, ◌+◌, ◌-◌, ◌≤◌, true, cond, List, length, take, drop, Some, None, Ok, Err, ◌∙◌, arith}
use Rattle.std.specs.Str.{bytes_eq}
use Rattle.std.proofs.lemmas.Bool.{ne_eqb, le-ltb}
use Rattle.charset.specs.Tables.{decoded}
use Rattle.charset.specs.declared.code_table.CodeTable.{CodeTable}
use Rattle.media.specs.Bytes.{standing, read_all}
use Rattle.media.specs.Translation.{translated, first_without}
use Rattle.media.specs.Frames.{line_end, stride}
use Rattle.media.specs.declared.framing.Framing.{Framing}
use Rattle.media.specs.declared.volumes.VolumeFault.TheVariants.{Frame}

module _ (f : Framing) (t : CodeTable) (rest : List ℕ) (p : ℕ) where
  -- the questions that remain where the bytes are enough
  pub enough : stride f ≤ length rest → standing f t rest p ≡ cond (bytes_eq (take (length (line_end f)) (drop 80 rest)) (line_end f)) (read_all t (take 80 rest) p (first_without (decoded t) (take 80 rest) 0)) (Err (Frame (p + 80)))
  enough h = rw (ne_eqb (length rest) 0 (omega arith), le-ltb (length rest) (stride f) h)

  framed : stride f ≤ length rest → bytes_eq (take (length (line_end f)) (drop 80 rest)) (line_end f) ≡ true → standing f t rest p ≡ read_all t (take 80 rest) p (first_without (decoded t) (take 80 rest) 0)
  framed h e = enough h ∙ rw e

  -- a whole record
  pub held : (s : ℕ) (cs : List ℕ) → s ≡ stride f → s ≤ length rest → bytes_eq (take (s - 80) (drop 80 rest)) (line_end f) ≡ true → first_without (decoded t) (take 80 rest) 0 ≡ None → cs ≡ translated (decoded t) (take 80 rest) → standing f t rest p ≡ Ok (Some cs)
  held s cs is h e all same =
      let k : s - 80 ≡ length (line_end f) = omega arith in
      framed (omega arith) (rw k at e) ∙ rw (all, same)
