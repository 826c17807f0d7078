-- An account in its limits: by the sums of all its movements, and movement by movement. Assumes nothing.
use Rattle.std.proofs.Common.{◌≡◌, ℕ, ◌+◌, true, leb, ◌↔◌, List, [], ◌∷◌, ◌++◌, sym, refl, ap, subst, arith}
use Rattle.std.proofs.lemmas.Bool.{lt-ltb, le-leb, leb-true, and_parts, and_from}
use Rattle.fields.specs.declared.keys.Key.{Key}
use Rattle.fields.specs.declared.keys.Key.TheVariants.{Debit, Credit}
use Rattle.values.specs.Balances.{begun, most, debit_of, credit_of, turned, balances, owed_to, owed_by, counts_in_limit, stays_in_limit}
use Rattle.values.specs.declared.parts.AccountHead.{AccountHead}
use Rattle.values.specs.declared.parts.OpenAccount.{OpenAccount}
use Rattle.values.specs.declared.parts.Turnover.{Turnover}
use Rattle.records.specs.Values.{key_at, number_at}
use Rattle.reading.proofs.Steps.{Limits}
use Rattle.guarantee.specs.Files.{Movement, debits_of, credits_of, turned_over, Balanced, InLimits}
use Rattle.guarantee.proofs.Keeping.{Limited}

-- an account after a movement's main record
abbrev pub turned_by : OpenAccount → List ℕ → OpenAccount
turned_by a r = turned a (key_at 28 r) (number_at 29 42 r)

-- an account after movements: their sums beside what it had
abbrev plus : OpenAccount → Turnover → Turnover → OpenAccount
plus a d c = record {
  head = a.head;
  debits = record { count = a.debits.count + d.count; total = a.debits.total + d.total };
  credits = record { count = a.credits.count + c.count; total = a.credits.total + c.total };
}

abbrev pub after_all : OpenAccount → List Movement → OpenAccount
after_all a ms = plus a (debits_of ms) (credits_of ms)

plus_none : (a : OpenAccount) → plus a (record { count = 0; total = 0 }) (record { count = 0; total = 0 }) ≡ a
plus_none a =
    let p : a.debits.count + 0 ≡ a.debits.count = omega arith in
    let q : a.debits.total + 0 ≡ a.debits.total = omega arith in
    let r : a.credits.count + 0 ≡ a.credits.count = omega arith in
    let s : a.credits.total + 0 ≡ a.credits.total = omega arith in
    λ i. record { head = a.head; debits = record { count = p i; total = q i }; credits = record { count = r i; total = s i } }

plus_turned : (a : OpenAccount) (k : Key) (n : ℕ) (d c : Turnover) → plus (turned a k n) d c ≡ plus a (record { count = debit_of k 1 + d.count; total = debit_of k n + d.total }) (record { count = credit_of k 1 + c.count; total = credit_of k n + c.total })
plus_turned a Debit n d c =
    let p : (a.debits.count + 1) + d.count ≡ a.debits.count + (1 + d.count) = omega arith in
    let q : (a.debits.total + n) + d.total ≡ a.debits.total + (n + d.total) = omega arith in
    let r : a.credits.count + c.count ≡ a.credits.count + (0 + c.count) = omega arith in
    let s : a.credits.total + c.total ≡ a.credits.total + (0 + c.total) = omega arith in
    λ i. record { head = a.head; debits = record { count = p i; total = q i }; credits = record { count = r i; total = s i } }
plus_turned a Credit n d c =
    let p : a.debits.count + d.count ≡ a.debits.count + (0 + d.count) = omega arith in
    let q : a.debits.total + d.total ≡ a.debits.total + (0 + d.total) = omega arith in
    let r : (a.credits.count + 1) + c.count ≡ a.credits.count + (1 + c.count) = omega arith in
    let s : (a.credits.total + n) + c.total ≡ a.credits.total + (n + c.total) = omega arith in
    λ i. record { head = a.head; debits = record { count = p i; total = q i }; credits = record { count = r i; total = s i } }

pub after_none : (a : OpenAccount) → after_all a [] ≡ a
after_none a = plus_none a

pub after_more : (a : OpenAccount) (m : Movement) (ms : List Movement) → after_all (turned_by a m.main) ms ≡ after_all a (m ∷ ms)
after_more a m ms = plus_turned a (key_at 28 m.main) (number_at 29 42 m.main) (debits_of ms) (credits_of ms)

pub after_begun : (h : AccountHead) (ms : List Movement) → after_all (begun h) ms ≡ turned_over h ms
after_begun h ms =
    let none : (n : ℕ) → 0 + n ≡ n = λ n. omega arith in
    λ i. record {
      head = h;
      debits = record { count = none (debits_of ms).count i; total = none (debits_of ms).total i };
      credits = record { count = none (credits_of ms).count i; total = none (credits_of ms).total i };
    }

-- the limits of one movement
one_limited : (a : OpenAccount) (k : Key) (n : ℕ) (d c : Turnover) → Limits (plus (turned a k n) d c) → Balanced (turned a k n) → (counts_in_limit a k ≡ true) × (stays_in_limit a k n ≡ true)
one_limited a Debit n d c l b = (
  lt-ltb a.debits.count 99999 (omega (arith, l.debits)),
  and_from (leb (a.debits.total + n) most) (balances (owed_to a + 0) (owed_by a + n)) (le-leb (a.debits.total + n) most (omega (arith, l.debited)))
      (and_from (leb (owed_to a + 0) ((owed_by a + n) + most)) (leb (owed_by a + n) ((owed_to a + 0) + most)) (le-leb _ _ (omega arith)) (le-leb _ _ (omega arith))),
)
one_limited a Credit n d c l b = (
  lt-ltb a.credits.count 99999 (omega (arith, l.credits)),
  and_from (leb (a.credits.total + n) most) (balances (owed_to a + n) (owed_by a + 0)) (le-leb (a.credits.total + n) most (omega (arith, l.credited)))
      (and_from (leb (owed_to a + n) ((owed_by a + 0) + most)) (leb (owed_by a + 0) ((owed_to a + n) + most)) (le-leb _ _ (omega arith)) (le-leb _ _ (omega arith))),
)

one_balanced : (a : OpenAccount) (k : Key) (n : ℕ) → stays_in_limit a k n ≡ true → Balanced (turned a k n)
one_balanced a Debit n h =
    let p = and_parts (leb (a.debits.total + n) most) (balances (owed_to a + 0) (owed_by a + n)) h in
    let q = and_parts (leb (owed_to a + 0) ((owed_by a + n) + most)) (leb (owed_by a + n) ((owed_to a + 0) + most)) p.1 in
    (omega (arith, leb-true _ _ q.0), omega (arith, leb-true _ _ q.1))
one_balanced a Credit n h =
    let p = and_parts (leb (a.credits.total + n) most) (balances (owed_to a + n) (owed_by a + 0)) h in
    let q = and_parts (leb (owed_to a + n) ((owed_by a + 0) + most)) (leb (owed_by a + 0) ((owed_to a + n) + most)) p.1 in
    (omega (arith, leb-true _ _ q.0), omega (arith, leb-true _ _ q.1))

-- the limits of all that come, at an account that has turned over something
pub record Within (a : OpenAccount) (ms : List Movement) : Type 0 where
  pub limits : Limits (after_all a ms)
  pub balance : (before : List Movement) (m : Movement) (behind : List Movement) → ms ≡ before ++ (m ∷ behind) → Balanced (after_all a (before ++ (m ∷ [])))

pub within_none : (a : OpenAccount) → Limits a → Within a []
within_none a l = record { limits = subst Limits (sym (after_none a)) l; balance = λ before m behind e. nothing before m behind e }
  where
    nothing : (before : List Movement) (m : Movement) (behind : List Movement) → [] ≡ before ++ (m ∷ behind) → Balanced (after_all a (before ++ (m ∷ [])))
    nothing [] m behind e = absurd (let z : ◌≡◌ {A = ℕ} 0 1 = cc in omega arith)
    nothing (b ∷ before) m behind e = absurd (let z : ◌≡◌ {A = ℕ} 0 1 = cc in omega arith)

module _ (a : OpenAccount) (m : Movement) (ms : List Movement) where
  pub within_one : Within a (m ∷ ms) → Limited m.main a × Within (turned_by a m.main) ms
  within_one w =
      let limits = subst Limits (sym (after_more a m ms)) w.limits in
      let here = subst Balanced (sym (after_more a m [])) (w.balance [] m ms refl) in (
        one_limited a (key_at 28 m.main) (number_at 29 42 m.main) (debits_of ms) (credits_of ms) limits (subst Balanced (after_none (turned_by a m.main)) here),
        record {
          limits = limits;
          balance = λ before x behind e. subst Balanced (sym (after_more a m (before ++ (x ∷ [])))) (w.balance (m ∷ before) x behind (ap (λ l. m ∷ l) e));
        },
      )

  pub within_more : Limited m.main a → Within (turned_by a m.main) ms → Within a (m ∷ ms)
  within_more l w = record { limits = subst Limits (after_more a m ms) w.limits; balance = each }
    where
      each : (before : List Movement) (x : Movement) (behind : List Movement) → m ∷ ms ≡ before ++ (x ∷ behind) → Balanced (after_all a (before ++ (x ∷ [])))
      each [] x behind e =
          let same : m ≡ x = cc in
          let here = one_balanced a (key_at 28 m.main) (number_at 29 42 m.main) l.1 in
          subst (λ y. Balanced (after_all a (y ∷ []))) same (subst Balanced (after_more a m []) (subst Balanced (sym (after_none (turned_by a m.main))) here))
      each (b ∷ before) x behind e =
          let same : m ≡ b = cc in
          let rest : ms ≡ before ++ (x ∷ behind) = cc in
          subst (λ y. Balanced (after_all a (y ∷ (before ++ (x ∷ []))))) same (subst Balanced (after_more a m (before ++ (x ∷ []))) (w.balance before x behind rest))

-- and from the beginning of an account
pub begun_limits : (h : AccountHead) (ms : List Movement) → InLimits h ms ↔ Within (begun h) ms
begun_limits h ms = (
  (λ l. record {
    limits = subst Limits (sym (after_begun h ms)) (record { debits = l.debits; debited = l.debited; credits = l.credits; credited = l.credited });
    balance = λ before m behind e. subst Balanced (sym (after_begun h (before ++ (m ∷ [])))) (l.balance before m behind e);
  }),
  (λ w.
      let l = subst Limits (after_begun h ms) w.limits in
      record {
        debits = l.debits;
        credits = l.credits;
        debited = l.debited;
        credited = l.credited;
        balance = λ before m behind e. subst Balanced (after_begun h (before ++ (m ∷ []))) (w.balance before m behind e);
      }),
)
