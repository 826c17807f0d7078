-- Two records that are right in the same place and tell the same values are the same record. Assumes nothing.
use Rattle.std.proofs.Common.{◌≡◌, ℕ, ◌+◌, List, Ok, refl, ap, ◌∙◌}
use Rattle.values.specs.declared.parts.AccountHead.{AccountHead}
use Rattle.values.specs.declared.parts.OpenAccount.{OpenAccount}
use Rattle.records.specs.Checks.{columns}
use Rattle.records.specs.Rules.{account_checks, movement_checks, text_checks, equivalent_checks, account_end_checks, file_end_checks}
use Rattle.records.specs.Values.{key_at, account_in, movement_in, equivalent_in}
use Rattle.composing.specs.Layouts.{account_layout, movement_layout, text_layout, equivalent_layout, account_end_layout}
use Rattle.composing.specs.Parts.{Part, composed}
use Rattle.reading.specs.declared.kinds.Kind.TheVariants.{Account, Movement, Text, Equivalent, AccountEnd, FileEnd}
use Rattle.edition.proofs.Restoring.{closed, account_restored, movement_restored, text_restored, equivalent_restored, account_end_restored, file_end_restored}
use Rattle.edition.proofs.Right.{Right}

module _ (r s : List ℕ) where
  one_composed : (ps qs : List Part) → composed ps ≡ Ok r → composed qs ≡ Ok s → ps ≡ qs → r ≡ s
  one_composed ps qs h k same = cc

  pub account_apart : Right Account account_checks r → Right Account account_checks s → account_in r ≡ account_in s → columns 52 77 r ≡ columns 52 77 s → r ≡ s
  account_apart p q head name =
      one_composed _ _ (account_restored r p.long p.is p.passed) (account_restored s q.long q.is q.passed)
      (ap (λ h. account_layout h (columns 52 77 r)) head ∙ ap (account_layout (account_in s)) name)

  pub movement_apart : (a : OpenAccount) → Right Movement (movement_checks a) r → Right Movement (movement_checks a) s → movement_in a.head.modality r ≡ movement_in a.head.modality s → columns 65 80 r ≡ columns 65 80 s → r ≡ s
  movement_apart a p q movement second =
      one_composed _ _ (movement_restored r p.long a p.is p.passed) (movement_restored s q.long a q.is q.passed)
      (ap (λ m. movement_layout m (columns 65 80 r)) movement ∙ ap (movement_layout (movement_in a.head.modality s)) second)

  pub text_apart : (n : ℕ) → Right Text (text_checks n) r → Right Text (text_checks n) s → columns 5 42 r ≡ columns 5 42 s → columns 43 80 r ≡ columns 43 80 s → r ≡ s
  text_apart n p q first second =
      one_composed _ _ (text_restored r p.long n p.is p.passed) (text_restored s q.long n q.is q.passed)
      (ap (λ cs. text_layout (n + 1) cs (columns 43 80 r)) first ∙ ap (text_layout (n + 1) (columns 5 42 s)) second)

  pub equivalent_apart : (h : AccountHead) → Right Equivalent (equivalent_checks h) r → Right Equivalent (equivalent_checks h) s → equivalent_in r ≡ equivalent_in s → r ≡ s
  equivalent_apart h p q equivalent =
      one_composed _ _ (equivalent_restored r p.long h p.is p.passed) (equivalent_restored s q.long h q.is q.passed)
      (ap equivalent_layout equivalent)

  pub account_end_apart : (a : OpenAccount) → Right AccountEnd (account_end_checks a) r → Right AccountEnd (account_end_checks a) s → key_at 59 r ≡ key_at 59 s → r ≡ s
  account_end_apart a p q key =
      one_composed _ _ (account_end_restored r p.long a p.is p.passed) (account_end_restored s q.long a q.is q.passed)
      (ap (λ k. account_end_layout (closed a k)) key)

  pub file_end_apart : (n : ℕ) → Right FileEnd (file_end_checks n) r → Right FileEnd (file_end_checks n) s → r ≡ s
  file_end_apart n p q =
      one_composed _ _ (file_end_restored r p.long n p.is p.passed) (file_end_restored s q.long n q.is q.passed) refl
