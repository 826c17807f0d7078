-- The counts in the rows that a file is kept in match the rows, and there are no more rows than records. Assumes nothing.
use Rattle.std.proofs.Common.{◌≡◌, ℕ, ◌+◌, ◌≤◌, List, [], ◌∷◌, map, length, refl, ap, arith, length-append}
use lib.ListN.{length-map}
use Rattle.std.specs.List.{flat_map}
use Rattle.fields.specs.declared.modalities.Modality.{Modality}
use Rattle.records.specs.Values.{modality_at}
use Rattle.rows.specs.Kept.{movements_of, texts_of}
use Rattle.rows.specs.declared.movements.MovementRow.{MovementRow}
use Rattle.archiving.proofs.Counting.{sum_append}
use Rattle.guarantee.specs.Files.{Movement, if_any, movement_records, Account, account_records, CorrectFile}
use Rattle.guarantee.specs.KeptIn.{text_row_of, movement_row_of, account_row_of, texts_in, movements_in, account_texts_in, kept_rows}

pub texts_counted : (m : Modality) (vs : List Movement) → texts_of (map (movement_row_of m) vs) ≡ length (flat_map texts_in vs)
texts_counted m [] = refl
texts_counted m (v ∷ vs) = omega (arith, texts_counted m vs, length-append (texts_in v) (flat_map texts_in vs), length-map v.texts text_row_of)

pub movements_kept : (accounts : List Account) → movements_of (kept_rows accounts).accounts ≡ length (kept_rows accounts).movements
movements_kept [] = refl
movements_kept (a ∷ accounts) =
    omega (arith, movements_kept accounts, length-append (movements_in a) (flat_map movements_in accounts), length-map a.movements (movement_row_of (modality_at 51 a.head)))

pub texts_kept : (accounts : List Account) → texts_of (kept_rows accounts).movements ≡ length (kept_rows accounts).texts
texts_kept [] = refl
texts_kept (a ∷ accounts) =
    omega (arith, texts_kept accounts, texts_counted (modality_at 51 a.head) a.movements, sum_append (λ (m : MovementRow). m.texts) (movements_in a) (flat_map movements_in accounts), length-append (account_texts_in a) (flat_map account_texts_in accounts))

-- rows and records of the same things
module _ {X A B : Type 0} (g : X → List B) where
  joined_longer : (f : X → List A) → ((x : X) → length (f x) ≤ length (g x)) → (xs : List X) → length (flat_map f xs) ≤ length (flat_map g xs)
  joined_longer f h [] = omega arith
  joined_longer f h (x ∷ xs) = omega (arith, h x, joined_longer f h xs, length-append (f x) (flat_map f xs), length-append (g x) (flat_map g xs))

  each_longer : (f : X → A) → ((x : X) → 1 ≤ length (g x)) → (xs : List X) → length (map f xs) ≤ length (flat_map g xs)
  each_longer f h [] = omega arith
  each_longer f h (x ∷ xs) = omega (arith, h x, each_longer f h xs, length-append (g x) (flat_map g xs))

movement_longer : (v : Movement) → length (texts_in v) ≤ length (movement_records v)
movement_longer v = omega (arith, length-map v.texts text_row_of, length-append v.texts (if_any v.equivalent))

module _ (a : Account) where
  inner_longer : length (flat_map movement_records a.movements) ≤ length (account_records a)
  inner_longer = omega (arith, length-append (flat_map movement_records a.movements) (a.end ∷ []))

  movements_longer : length (movements_in a) ≤ length (account_records a)
  movements_longer = omega (arith, inner_longer, each_longer movement_records (movement_row_of (modality_at 51 a.head)) (λ v. omega arith) a.movements)

  texts_longer : length (account_texts_in a) ≤ length (account_records a)
  texts_longer = omega (arith, inner_longer, joined_longer movement_records texts_in movement_longer a.movements)

pub no_more_rows : (rs : List (List ℕ)) (f : CorrectFile rs) → (length (kept_rows f.accounts).accounts ≤ length rs) × (length (kept_rows f.accounts).movements ≤ length rs) × (length (kept_rows f.accounts).texts ≤ length rs)
no_more_rows rs f =
    let inner = flat_map account_records f.accounts in
    let whole : length rs ≡ length inner + 1 = omega (arith, ap length f.whole, length-append inner (f.end ∷ [])) in
    let accounts = each_longer account_records account_row_of (λ a. omega arith) f.accounts in
    let movements = joined_longer account_records movements_in movements_longer f.accounts in
    let texts = joined_longer account_records account_texts_in texts_longer f.accounts in
    (omega (arith, whole, accounts), omega (arith, whole, movements), omega (arith, whole, texts))
