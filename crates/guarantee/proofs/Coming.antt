-- How what may still come changes with one record. Assumes nothing.
use Rattle.std.proofs.Common.{◌≡◌, ℕ, ◌+◌, ◌≤◌, cond, List, [], ◌∷◌, ◌++◌, length, Some, None, Option, sym, refl, ap, ◌∙◌, subst, arith}
use Rattle.std.specs.List.{flat_map, AllByRecursion}
use Rattle.std.proofs.lemmas.List.{append_assoc, length-append}
use Rattle.std.proofs.lemmas.Bool.{lt-ltb}
use Rattle.values.specs.Balances.{begun}
use Rattle.values.specs.declared.parts.OpenAccount.{OpenAccount}
use Rattle.records.specs.Rules.{account_checks, movement_checks, text_checks, equivalent_checks, account_end_checks, file_end_checks}
use Rattle.records.specs.Values.{account_in}
use Rattle.reading.specs.Kinds.{last_number}
use Rattle.reading.specs.Limits.{texts_of}
use Rattle.reading.specs.Offers.{checks}
use Rattle.reading.specs.Phases.{next}
use Rattle.reading.specs.Taken.{account_after}
use Rattle.reading.specs.declared.kinds.Kind.{Kind}
use Rattle.reading.specs.declared.kinds.Kind.TheVariants as kind
use Rattle.reading.specs.declared.phases.Phase.{Phase}
use Rattle.reading.specs.declared.phases.Phase.TheVariants.{Start, Between, Opened, Texts, Converted, Ended}
use Rattle.edition.proofs.Closing.{opened_closable}
use Rattle.edition.proofs.Right.{Right}
use Rattle.edition.proofs.Taking.{Fitting}
use Rattle.guarantee.specs.Files.{Keeps, Movement, if_any, movement_records, Account, account_records, CorrectAccount}
use Rattle.guarantee.proofs.Keeping.{mark, is_right, keeps}
use Rattle.guarantee.proofs.OneByOne.{one_by_one, all_together}
use Rattle.guarantee.proofs.ToCome.{Details, Movements, Accounts, InAccount, InMovement, Coming}
use Rattle.guarantee.proofs.Turning.{turned_by, after_all, after_none, after_more, after_begun, begun_limits}
use Rattle.guarantee.proofs.Ways.{Inside, inside_movement, inside_end, Way, first_account, one_more_account, file_end, movement, text, equivalent, account_end}

-- a record that may come next, and what may come after it
abbrev pub Next : Phase → ℕ → OpenAccount → List ℕ → List (List ℕ) → Type 0
Next phase n a o rest = (f : Fitting phase n a o) × Coming f.after (n + 1) (account_after a o f.kind) rest

-- the same accounts and then the file end, with the first account taken apart
regrouped : (xs : List (List ℕ)) (x : List ℕ) (ys zs : List (List ℕ)) → ((xs ++ (x ∷ [])) ++ ys) ++ zs ≡ xs ++ (x ∷ (ys ++ zs))
regrouped xs x ys zs = append_assoc (xs ++ (x ∷ [])) ys zs ∙ append_assoc xs (x ∷ []) (ys ++ zs)

counted : (n : ℕ) (x : Account) (xs : List Account) → n + length (flat_map account_records (x ∷ xs)) ≡ ((n + 1) + (length (flat_map movement_records x.movements) + 1)) + length (flat_map account_records xs)
counted n x xs =
    let long = length-append (flat_map movement_records x.movements ++ (x.end ∷ [])) (flat_map account_records xs) in
    let short = length-append (flat_map movement_records x.movements) (x.end ∷ []) in
    omega arith

-- outside an account
module _ (n : ℕ) (a : OpenAccount) (o : List ℕ) (rest : List (List ℕ)) where
  account_next : (phase : Phase) → next phase kind.Account ≡ Some Opened → (x : Account) (xs : List Account) (end : List ℕ) → o ∷ rest ≡ flat_map account_records (x ∷ xs) ++ (end ∷ []) → AllByRecursion CorrectAccount (x ∷ xs) → Keeps (mark kind.FileEnd) (file_end_checks (n + length (flat_map account_records (x ∷ xs)))) end → n + length (flat_map account_records (x ∷ xs)) ≤ 999999 → Next phase n a o rest
  account_next phase may x xs end whole each last bound =
      let here : x.head ≡ o = cc in
      let there : rest ≡ ((flat_map movement_records x.movements ++ (x.end ∷ [])) ++ flat_map account_records xs) ++ (end ∷ []) = cc in
      let head = account_in x.head in
      let number = counted n x xs in
      let first = each.0 in
      let t : InAccount (begun head) (n + 1) rest = record {
        movements = x.movements;
        end = x.end;
        behind = flat_map account_records xs ++ (end ∷ []);
        whole = there ∙ regrouped (flat_map movement_records x.movements) x.end (flat_map account_records xs) (end ∷ []);
        each = one_by_one (begun head) x.movements first.movements ((begun_limits head x.movements).0 first.limits);
        closes = subst (λ y. Keeps (mark kind.AccountEnd) (account_end_checks y) x.end) (sym (after_begun head x.movements)) first.end;
        then = record {
          accounts = xs;
          end = end;
          whole = refl;
          each = each.1;
          last = subst (λ y. Keeps (mark kind.FileEnd) (file_end_checks y) end) number last;
          bound = omega arith;
        };
      } in (
        record {
          kind = kind.Account;
          after = Opened;
          may = may;
          numbered = omega arith;
          fields = subst (Right kind.Account account_checks) here (is_right kind.Account account_checks x.head first.head);
        },
        subst (λ r. InAccount (begun (account_in r)) (n + 1) rest) here t,
      )

  file_end_next : (end : List ℕ) → o ∷ rest ≡ end ∷ [] → Keeps (mark kind.FileEnd) (file_end_checks (n + 0)) end → n + 0 ≤ 999999 → Next Between n a o rest
  file_end_next end whole last bound =
      let here : end ≡ o = cc in
      let number : n + 0 ≡ n = omega arith in
      let right = is_right kind.FileEnd (file_end_checks (n + 0)) end last in (
        record {
          kind = kind.FileEnd;
          after = Ended;
          may = refl;
          numbered = omega arith;
          fields = subst (λ x. Right kind.FileEnd (file_end_checks x) o) number (subst (Right kind.FileEnd (file_end_checks (n + 0))) here right);
        },
        cc,
      )

  pub account_comes : Right kind.Account account_checks o → InAccount (begun (account_in o)) (n + 1) rest → (t : Accounts n (o ∷ rest)) × (1 ≤ length t.accounts)
  account_comes h t =
      let head = account_in o in
      let all = all_together (begun head) t.movements (opened_closable o h.long h.passed) t.each in
      let more = t.then in
      let account : Account = record { head = o; movements = t.movements; end = t.end } in
      let number = sym (counted n account more.accounts) in
      let there = t.whole ∙ (ap (λ l. flat_map movement_records t.movements ++ (t.end ∷ l)) more.whole ∙ sym (regrouped (flat_map movement_records t.movements) t.end (flat_map account_records more.accounts) (more.end ∷ []))) in (
        record {
          accounts = account ∷ more.accounts;
          end = more.end;
          whole = ap (λ l. o ∷ l) there;
          each = (
            record {
              head = keeps kind.Account account_checks o h;
              movements = all.0;
              limits = (begun_limits head t.movements).1 all.1;
              end = subst (λ x. Keeps (mark kind.AccountEnd) (account_end_checks x) t.end) (after_begun head t.movements) t.closes;
            },
            more.each,
          );
          last = subst (λ x. Keeps (mark kind.FileEnd) (file_end_checks x) more.end) number more.last;
          bound = omega (arith, more.bound);
        },
        omega arith,
      )

pub file_end_comes : (n : ℕ) (o : List ℕ) → n ≤ 999999 → Right kind.FileEnd (file_end_checks n) o → Accounts n (o ∷ [])
file_end_comes n o room h =
    let number : n ≡ n + 0 = omega arith in
    record { accounts = []; end = o; whole = refl; each = tt; last = subst (λ x. Keeps (mark kind.FileEnd) (file_end_checks x) o) number (keeps kind.FileEnd (file_end_checks n) o h); bound = omega arith }

-- in an account
module _ (n : ℕ) (a : OpenAccount) (o : List ℕ) (rest : List (List ℕ)) where
  in_account_next : (phase : Phase) → Inside phase → InAccount a n (o ∷ rest) → Next phase n a o rest
  in_account_next phase i t = go t.movements t.whole t.each t.closes t.then
    where
      go : (ms : List Movement) → o ∷ rest ≡ flat_map movement_records ms ++ (t.end ∷ t.behind) → Movements a ms → Keeps (mark kind.AccountEnd) (account_end_checks (after_all a ms)) t.end → Accounts (n + (length (flat_map movement_records ms) + 1)) t.behind → Next phase n a o rest
      go [] whole each closes then =
          let here : t.end ≡ o = cc in
          let there : t.behind ≡ rest = cc in
          let right = is_right kind.AccountEnd (account_end_checks (after_all a [])) t.end closes in (
            record {
              kind = kind.AccountEnd;
              after = Between;
              may = inside_end phase i;
              numbered = omega (arith, then.bound);
              fields = subst (λ x. Right kind.AccountEnd (account_end_checks x) o) (after_none a) (subst (Right kind.AccountEnd (account_end_checks (after_all a []))) here right);
            },
            subst (Accounts (n + 1)) there then,
          )
      go (m ∷ ms) whole each closes then =
          let here : m.main ≡ o = cc in
          let details = m.texts ++ if_any m.equivalent in
          let there : rest ≡ (details ++ flat_map movement_records ms) ++ (t.end ∷ t.behind) = cc in
          let long = length-append details (flat_map movement_records ms) in
          let number : n + (length (flat_map movement_records (m ∷ ms)) + 1) ≡ ((n + 1) + length details) + (length (flat_map movement_records ms) + 1) = omega arith in
          let more : InMovement (turned_by a m.main) 0 (n + 1) rest = record {
            texts = m.texts;
            equivalent = m.equivalent;
            behind = flat_map movement_records ms ++ (t.end ∷ t.behind);
            whole = there ∙ append_assoc details (flat_map movement_records ms) (t.end ∷ t.behind);
            details = each.1;
            then = record {
              movements = ms;
              end = t.end;
              behind = t.behind;
              whole = refl;
              each = each.2;
              closes = subst (λ x. Keeps (mark kind.AccountEnd) (account_end_checks x) t.end) (sym (after_more a m ms)) closes;
              then = subst (λ x. Accounts x t.behind) number then;
            };
          } in (
            record {
              kind = kind.Movement;
              after = Texts 0;
              may = inside_movement phase i;
              numbered = omega (arith, then.bound);
              fields = subst (Right kind.Movement (movement_checks a)) here (is_right kind.Movement (movement_checks a) m.main each.0);
            },
            subst (λ r. InMovement (turned_by a r) 0 (n + 1) rest) here more,
          )

  pub movement_comes : Right kind.Movement (movement_checks a) o → InMovement (turned_by a o) 0 (n + 1) rest → InAccount a n (o ∷ rest)
  movement_comes h t =
      let more = t.then in
      let m : Movement = record { main = o; texts = t.texts; equivalent = t.equivalent } in
      let details = t.texts ++ if_any t.equivalent in
      let long = length-append details (flat_map movement_records more.movements) in
      let number : ((n + 1) + length details) + (length (flat_map movement_records more.movements) + 1) ≡ n + (length (flat_map movement_records (m ∷ more.movements)) + 1) = omega arith in
      let there = t.whole ∙ (ap (λ l. details ++ l) more.whole ∙ sym (append_assoc details (flat_map movement_records more.movements) (more.end ∷ more.behind))) in
      record {
        movements = m ∷ more.movements;
        end = more.end;
        behind = more.behind;
        whole = ap (λ l. o ∷ l) there;
        each = (keeps kind.Movement (movement_checks a) o h, t.details, more.each);
        closes = subst (λ x. Keeps (mark kind.AccountEnd) (account_end_checks x) more.end) (after_more a m more.movements) more.closes;
        then = subst (λ x. Accounts x more.behind) number more.then;
      }

  pub account_end_comes : Right kind.AccountEnd (account_end_checks a) o → Accounts (n + 1) rest → InAccount a n (o ∷ rest)
  account_end_comes h t = record {
    movements = [];
    end = o;
    behind = rest;
    whole = refl;
    each = tt;
    closes = subst (λ x. Keeps (mark kind.AccountEnd) (account_end_checks x) o) (sym (after_none a)) (keeps kind.AccountEnd (account_end_checks a) o h);
    then = t;
  }

-- in a movement
pub no_more : (a : OpenAccount) (k n : ℕ) (rest : List (List ℕ)) → k ≤ 5 → InAccount a n rest → InMovement a k n rest
no_more a k n rest few t =
    let number : n ≡ n + 0 = omega arith in
    record { texts = []; equivalent = None; behind = rest; whole = refl; details = record { texts = tt; few = omega arith; equivalent = tt }; then = subst (λ x. InAccount a x rest) number t }

module _ (k n : ℕ) (a : OpenAccount) (o : List ℕ) (rest : List (List ℕ)) where
  in_movement_next : InMovement a k n (o ∷ rest) → Next (Texts k) n a o rest
  in_movement_next t = go t.texts t.equivalent t.whole t.details t.then
    where
      go : (ts : List (List ℕ)) (e : Option (List ℕ)) → o ∷ rest ≡ (ts ++ if_any e) ++ t.behind → Details a.head k ts e → InAccount a (n + length (ts ++ if_any e)) t.behind → Next (Texts k) n a o rest
      go [] None whole d then =
          let number : n + 0 ≡ n = omega arith in
          in_account_next n a o rest (Texts k) tt (subst (InAccount a n) (sym whole) (subst (λ x. InAccount a x t.behind) number then))
      go [] (Some e) whole d then =
          let here : e ≡ o = cc in
          let there : t.behind ≡ rest = cc in (
            record {
              kind = kind.Equivalent;
              after = Converted;
              may = refl;
              numbered = omega (arith, then.then.bound);
              fields = subst (Right kind.Equivalent (equivalent_checks a.head)) here (is_right kind.Equivalent (equivalent_checks a.head) e d.equivalent.0);
            },
            subst (InAccount a (n + 1)) there then,
          )
      go (x ∷ ts) e whole d then =
          let here : x ≡ o = cc in
          let number : n + length (x ∷ (ts ++ if_any e)) ≡ (n + 1) + length (ts ++ if_any e) = omega arith in (
            record {
              kind = kind.Text;
              after = Texts (k + 1);
              may = ap (λ b. cond b (Some (Texts (k + 1))) None) (lt-ltb k 5 (omega (arith, d.few)));
              numbered = omega (arith, then.then.bound);
              fields = subst (Right kind.Text (text_checks k)) here (is_right kind.Text (text_checks k) x d.texts.0);
            },
            record {
              texts = ts;
              equivalent = e;
              behind = t.behind;
              whole = cc;
              details = record { texts = d.texts.1; few = omega (arith, d.few); equivalent = d.equivalent };
              then = subst (λ y. InAccount a y t.behind) number then;
            },
          )

  pub text_comes : Right kind.Text (text_checks k) o → InMovement a (k + 1) (n + 1) rest → InMovement a k n (o ∷ rest)
  text_comes h t =
      let more = t.texts ++ if_any t.equivalent in
      let number : (n + 1) + length more ≡ n + length (o ∷ more) = omega arith in
      record {
        texts = o ∷ t.texts;
        equivalent = t.equivalent;
        behind = t.behind;
        whole = ap (λ l. o ∷ l) t.whole;
        details = record { texts = (keeps kind.Text (text_checks k) o h, t.details.texts); few = omega (arith, t.details.few); equivalent = t.details.equivalent };
        then = subst (λ x. InAccount a x t.behind) number t.then;
      }

  pub equivalent_comes : k ≤ 5 → Right kind.Equivalent (equivalent_checks a.head) o → InAccount a (n + 1) rest → InMovement a k n (o ∷ rest)
  equivalent_comes few h t = record {
    texts = [];
    equivalent = Some o;
    behind = rest;
    whole = refl;
    details = record { texts = tt; few = omega arith; equivalent = (keeps kind.Equivalent (equivalent_checks a.head) o h, tt) };
    then = t;
  }

-- what may come begins with a record that fits, and what follows may come after it
pub next_of : (phase : Phase) (n : ℕ) (a : OpenAccount) (o : List ℕ) (rest : List (List ℕ)) → Coming phase n a (o ∷ rest) → Next phase n a o rest
next_of Start n a o rest t = go t.0.accounts t.0.whole t.0.each t.0.last t.0.bound t.1
  where
    go : (xs : List Account) → o ∷ rest ≡ flat_map account_records xs ++ (t.0.end ∷ []) → AllByRecursion CorrectAccount xs → Keeps (mark kind.FileEnd) (file_end_checks (n + length (flat_map account_records xs))) t.0.end → n + length (flat_map account_records xs) ≤ 999999 → 1 ≤ length xs → Next Start n a o rest
    go [] whole each last bound some = absurd (omega arith)
    go (x ∷ xs) whole each last bound some = account_next n a o rest Start refl x xs t.0.end whole each last bound
next_of Between n a o rest t = go t.accounts t.whole t.each t.last t.bound
  where
    go : (xs : List Account) → o ∷ rest ≡ flat_map account_records xs ++ (t.end ∷ []) → AllByRecursion CorrectAccount xs → Keeps (mark kind.FileEnd) (file_end_checks (n + length (flat_map account_records xs))) t.end → n + length (flat_map account_records xs) ≤ 999999 → Next Between n a o rest
    go [] whole each last bound = file_end_next n a o rest t.end whole last bound
    go (x ∷ xs) whole each last bound = account_next n a o rest Between refl x xs t.end whole each last bound
next_of Opened n a o rest t = in_account_next n a o rest Opened tt t
next_of (Texts k) n a o rest t = in_movement_next k n a o rest t
next_of Converted n a o rest t = in_account_next n a o rest Converted tt t
next_of Ended n a o rest t = absurd (let z : ◌≡◌ {A = ℕ} 0 1 = cc in omega arith)

-- what may come in an account may come in each of its phases
pub in_phase : (phase : Phase) (n : ℕ) (a : OpenAccount) (rest : List (List ℕ)) → Inside phase → texts_of phase ≤ 5 → InAccount a n rest → Coming phase n a rest
in_phase Start n a rest i few t = absurd i
in_phase Between n a rest i few t = absurd i
in_phase Opened n a rest i few t = t
in_phase (Texts k) n a rest i few t = no_more a k n rest few t
in_phase Converted n a rest i few t = t
in_phase Ended n a rest i few t = absurd i

-- a record that fits may come before all that may come after it
pub before : (phase : Phase) (k : Kind) (q : Phase) → Way phase k q → (n : ℕ) (a : OpenAccount) (o : List ℕ) (rest : List (List ℕ)) → texts_of phase ≤ 5 → n + 1 ≤ last_number k → Right k (checks k (texts_of phase) n a) o → Coming q (n + 1) (account_after a o k) rest → Coming phase n a (o ∷ rest)
before _ _ _ first_account n a o rest few room h t = account_comes n a o rest h t
before _ _ _ one_more_account n a o rest few room h t = (account_comes n a o rest h t).0
before _ _ _ file_end n a o rest few room h t = subst (λ l. Accounts n (o ∷ l)) (sym t) (file_end_comes n o (omega arith) h)
before phase _ _ (movement i) n a o rest few room h t = in_phase phase n a (o ∷ rest) i few (movement_comes n a o rest h t)
before (Texts k) _ _ (text less) n a o rest few room h t = text_comes k n a o rest h t
before (Texts k) _ _ equivalent n a o rest few room h t = equivalent_comes k n a o rest few h t
before phase _ _ (account_end i) n a o rest few room h t = in_phase phase n a (o ∷ rest) i few (account_end_comes n a o rest h t)
