-- A number that is put at the right of its columns. Assumes nothing.
use Rattle.std.proofs.Common.{◌≡◌, ℕ, zero, suc, ◌-◌, ◌^◌, ◌==◌, false, List, [], ◌∷◌, ◌++◌, length, replicate, refl, ap, ◌∙◌, append_assoc, append-nil, arith}
use Rattle.std.specs.Fmt.{decimal, char_count, padded_integral, format_spec, styled_decimal}
use Rattle.std.specs.List.{repeat}
use lib.Utf8.{encode}
use Rattle.checking.specs.Lines.{justified}

-- so many times one byte
spaces : (n : ℕ) → repeat {A = ℕ} n (32 ∷ []) ≡ replicate n 32
spaces zero = refl
spaces (suc n) = ap (λ bytes. 32 ∷ bytes) (spaces n)

-- no byte stands behind the digits
before : (k : ℕ) (digits : List ℕ) → repeat {A = ℕ} k (32 ∷ []) ++ [] ++ [] ++ [] ++ (digits ++ repeat {A = ℕ} (k - k) (32 ∷ [])) ≡ replicate k 32 ++ digits
before k digits =
    let none : k - k ≡ 0 = omega arith in
    let empty = append-nil (repeat {A = ℕ} k (32 ∷ [])) in
    rw (none, append-nil digits) (rw (empty, empty, empty, spaces k) refl)

-- `{n:>w}` writes a number at the right of w columns
pub in_columns : (w n : ℕ) → (w == 0) ≡ false → styled_decimal (format_spec 32 3 0 w (2 ^ 64 - 1)) n ≡ justified w n
unfolding padded_integral char_count encode
in_columns w n some =
    let all : w - length (decimal n) - 0 - 0 ≡ w - length (decimal n) = omega arith in
    rw some (before (w - length (decimal n) - 0 - 0) (decimal n) ∙ ap (λ k. replicate k 32 ++ decimal n) all)

-- the parts of a line, one after another
pub in_line : (b₁ b₂ b₃ b₄ b₅ b₆ x₁ x₂ x₃ x₄ x₅ x₆ x₇ : List ℕ) → b₁ ≡ x₁ → b₂ ≡ x₂ → b₃ ≡ x₃ → b₄ ≡ x₄ → b₅ ≡ x₅ → b₆ ≡ x₆ → b₁ ++ (b₂ ++ (b₃ ++ (b₄ ++ (b₅ ++ (b₆ ++ x₇))))) ≡ (x₁ ++ (x₂ ++ (x₃ ++ x₄))) ++ (x₅ ++ (x₆ ++ x₇))
in_line b₁ b₂ b₃ b₄ b₅ b₆ x₁ x₂ x₃ x₄ x₅ x₆ x₇ e₁ e₂ e₃ e₄ e₅ e₆ =
    let back = x₅ ++ (x₆ ++ x₇) in
    rw (e₁, e₂, e₃, e₄, e₅, e₆) (rw (append_assoc x₁ (x₂ ++ (x₃ ++ x₄)) back, append_assoc x₂ (x₃ ++ x₄) back, append_assoc x₃ x₄ back) refl)
