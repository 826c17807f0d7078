-- How a table fills up, over the rows that were given. Assumes nothing.
use Rattle.std.proofs.Common.{◌≡◌, ℕ, ◌+◌, ◌-◌, ◌<◌, ◌≤◌, Bool, true, false, List, [], ◌∷◌, ◌++◌, length, take, drop, set, Some, None, Ok, sym, refl, ap, ◌∙◌, subst, arith, length-append, length-set}
use Rattle.std.proofs.lemmas.List.{take_more, take_more_set, drop-set, drop-drop, length-take-le}
use Rattle.table.specs.Rows.{held, Pushed, WasSet, LastOf, Fills, revised}

module _ {A : Type 0} where
  -- a table that was emptied
  pub emptied : (given : List A) → Fills given given 0 []
  emptied given = record { front = refl; behind = refl; many = refl; size = refl }

  -- as a table stands
  pub standing : (rows : List A) (filled : ℕ) → filled ≤ length rows → Fills rows rows filled (held rows filled)
  standing rows filled fits = record { front = refl; behind = refl; many = sym (length-take-le filled rows fits); size = refl }

  drop_beyond : (xs ys : List A) (n m : ℕ) → drop n xs ≡ drop n ys → n ≤ m → drop m xs ≡ drop m ys
  drop_beyond xs ys n m h le =
      let k : n + (m - n) ≡ m = omega (arith, le) in
      subst (λ (j : ℕ). drop j xs ≡ drop j ys) k (sym (drop-drop (m - n) n xs) ∙ (ap (drop (m - n)) h ∙ drop-drop (m - n) n ys))

  -- what is filled later is filled over the same rows
  pub onward : (given rows rows' : List A) (filled filled' : ℕ) (fill fill' : List A) → Fills given rows filled fill → Fills rows rows' filled' fill' → filled ≤ filled' → Fills given rows' filled' fill'
  onward given rows rows' filled filled' fill fill' f f' le = record {
    front = f'.front;
    behind = f'.behind ∙ drop_beyond rows given filled filled' f.behind le;
    many = f'.many;
    size = f'.size ∙ f.size;
  }

  drop_set_behind : (xs : List A) (i : ℕ) (y : A) → i < length xs → drop (i + 1) (set xs i y) ≡ drop (i + 1) xs
  drop_set_behind xs i y lt = sym (drop-drop 1 i (set xs i y)) ∙ ap (drop 1) (drop-set xs i y lt)

  -- one row more
  pub pushed : (rows : List A) (filled : ℕ) (row : A) (rows' : List A) (filled' : ℕ) → filled ≤ length rows → Pushed rows filled row rows' filled' (Ok tt) → Fills rows rows' filled' (held rows filled ++ (row ∷ []))
  pushed rows filled row rows' filled' fits p =
      let taken : take filled' rows' ≡ take filled rows ++ (row ∷ []) = rw (p.1, p.2) (take_more_set rows filled row p.0) in
      record {
        front = taken;
        behind = rw (p.1, p.2) (drop_set_behind rows filled row p.0);
        many = omega (arith, p.2, length-append (take filled rows) (row ∷ []), length-take-le filled rows fits);
        size = ap length p.1 ∙ length-set rows filled row;
      }

  pub revised_last : (f : A → A) (xs : List A) (x : A) → revised f (xs ++ (x ∷ [])) ≡ xs ++ (f x ∷ [])
  revised_last f [] x = refl
  revised_last f (y ∷ []) x = refl
  revised_last f (y ∷ (z ∷ xs)) x = ap (λ l. y ∷ l) (revised_last f (z ∷ xs) x)

  pub length-revised : (f : A → A) (xs : List A) → length (revised f xs) ≡ length xs
  length-revised f [] = refl
  length-revised f (x ∷ []) = refl
  length-revised f (x ∷ (y ∷ xs)) = omega (arith, length-revised f (y ∷ xs))

  -- another last row
  pub last_set : (f : A → A) (rows : List A) (filled : ℕ) (last : ℕ × A) → filled ≤ length rows → LastOf rows filled (Some last) → Fills rows (set rows last.0 (f last.1)) filled (revised f (held rows filled))
  last_set f rows filled last fits l =
      let i = last.0 in
      let inside : i < length rows = omega (arith, l.0, fits) in
      let was : take (i + 1) rows ≡ take i rows ++ (last.1 ∷ []) = take_more rows i last.1 inside ∙ ap (λ x. take i rows ++ (x ∷ [])) (l.1 last.1) in
      let is : take (i + 1) (set rows i (f last.1)) ≡ revised f (take (i + 1) rows) = take_more_set rows i (f last.1) inside ∙ sym (ap (revised f) was ∙ revised_last f (take i rows) last.1) in
      record {
        front = subst (λ (n : ℕ). take n (set rows i (f last.1)) ≡ revised f (take n rows)) l.0 is;
        behind = subst (λ (n : ℕ). drop n (set rows i (f last.1)) ≡ drop n rows) l.0 (drop_set_behind rows i (f last.1) inside);
        many = sym (length-revised f (take filled rows) ∙ length-take-le filled rows fits);
        size = length-set rows i (f last.1);
      }

  -- the same by what setting it answers
  pub revised_by : (f : A → A) (rows : List A) (filled : ℕ) (last : ℕ × A) (rows' : List A) (filled' : ℕ) (b : Bool) → filled ≤ length rows → LastOf rows filled (Some last) → WasSet rows filled last.0 (f last.1) rows' b → filled' ≡ filled → Fills rows rows' filled' (revised f (held rows filled))
  revised_by f rows filled last rows' filled' true fits l w e = rw (w.1, e) (last_set f rows filled last fits l)
  revised_by f rows filled last rows' filled' false fits l w e = absurd (omega (arith, l.0, w.0))

  -- a table without a last row stays as it is
  pub none_set : (f : A → A) (rows : List A) (filled : ℕ) → LastOf rows filled None → Fills rows rows filled (revised f (held rows filled))
  none_set f rows filled none = record {
    front = rw none refl;
    behind = refl;
    many = rw none refl;
    size = refl;
  }
