-- The numbers of an open account stay such that an account end can tell them. Assumes nothing.
use Rattle.std.proofs.Common.{◌≡◌, ℕ, ◌+◌, ◌-◌, ◌^◌, ◌<◌, ◌≤◌, true, leb, List, length, None, sym, refl, arith}
use Rattle.std.proofs.lemmas.Bool.{ltb-true, leb-true, and_parts}
use Rattle.std.proofs.lemmas.Bool.Decides.{nat_tests}
use Rattle.fields.specs.Codes.{among, currencies}
use Rattle.fields.specs.declared.keys.Key.{Key}
use Rattle.fields.specs.declared.keys.Key.TheVariants.{Debit, Credit}
use Rattle.values.specs.Balances.{begun, most, debit_of, credit_of, balances, owed_to, owed_by, turned, counts_in_limit, stays_in_limit, final_amount}
use Rattle.values.specs.declared.parts.AccountHead.{AccountHead}
use Rattle.values.specs.declared.parts.OpenAccount.{OpenAccount}
use Rattle.records.specs.Checks.{judged, tested, digits, spaces, date, currency, common_concept, key, modality, is_currency}
use Rattle.records.specs.Rules.{account_checks, origin_checks, movement_checks}
use Rattle.records.specs.Values.{number_at, key_at, account_in}
use Rattle.records.proofs.Holding.{split, movement_limits}
use Rattle.reading.specs.Offers.{checks}
use Rattle.reading.specs.Taken.{account_after}
use Rattle.reading.specs.declared.kinds.Kind.{Kind}
use Rattle.reading.specs.declared.kinds.Kind.TheVariants.{Account, Movement, Text, Equivalent, AccountEnd, FileEnd}
use Rattle.reading.proofs.Steps.{Limits}
use Rattle.edition.proofs.Each.{behind, holds_at}
use Rattle.edition.proofs.Left.{number_room}

-- numbers that have room in their fields
pub record HeadFits (h : AccountHead) : Type 0 where
  pub entity : h.number.entity < 10 ^ 4
  pub office : h.number.office < 10 ^ 4
  pub number : h.number.number < 10 ^ 10
  pub currency : among h.currency currencies ≡ true
  pub initial : h.initial.amount ≤ most

pub record Closable (a : OpenAccount) : Type 0 where
  pub head : HeadFits a.head
  pub limits : Limits a
  pub final : final_amount a ≤ most

pub currency_small : (n : ℕ) → among n currencies ≡ true → n < 1000
currency_small n h = grind (arith, nat_tests)

-- what an account record gives, and what a movement record gives
pub account_gives : (r : List ℕ) → length r ≡ 80 → judged account_checks r ≡ None → HeadFits (account_in r)
unfolding tested digits spaces date currency key modality is_currency
account_gives r long h =
    let at = holds_at account_checks r h in
    record {
      entity = number_room r long 3 6 refl (at 0);
      office = number_room r long 7 10 refl (at 1);
      number = number_room r long 11 20 refl (at 2);
      currency = at 12;
      initial = omega (arith, number_room r long 34 47 refl (at 10));
    }

pub movement_gives : (a : OpenAccount) (r : List ℕ) → length r ≡ 80 → judged (movement_checks a) r ≡ None → (number_at 29 42 r < 10 ^ 14) × (counts_in_limit a (key_at 28 r) ≡ true) × (stays_in_limit a (key_at 28 r) (number_at 29 42 r) ≡ true)
unfolding tested digits spaces date common_concept key
movement_gives a r long h =
    let rest = (split (origin_checks a.head.modality) _ r (sym (behind (movement_checks a) r h 1))).1 in
    let limits = movement_limits a r (sym h) in
    (number_room r long 29 42 refl (holds_at _ r (sym rest) 11), limits.0, limits.1)

-- an account that has just begun can be closed, and so can one after a movement
begun_amount : (k : Key) (n : ℕ) → n ≤ most → ((credit_of k n + 0) - (debit_of k n + 0)) + ((debit_of k n + 0) - (credit_of k n + 0)) ≤ most
begun_amount Debit n h = omega arith
begun_amount Credit n h = omega arith

pub begun_closable : (h : AccountHead) → HeadFits h → Closable (begun h)
begun_closable h fits = record {
  head = fits;
  limits = record { debits = omega arith; debited = omega arith; credits = omega arith; credited = omega arith };
  final = begun_amount h.initial.key h.initial.amount fits.initial;
}

pub opened_closable : (r : List ℕ) → length r ≡ 80 → judged account_checks r ≡ None → Closable (begun (account_in r))
opened_closable r long h = begun_closable (account_in r) (account_gives r long h)

in_balance : (to by : ℕ) → balances to by ≡ true → (to - by) + (by - to) ≤ most
in_balance to by h =
    let p = and_parts (leb to (by + most)) (leb by (to + most)) h in
    omega (arith, leb-true to (by + most) p.0, leb-true by (to + most) p.1)

pub turned_closable : (a : OpenAccount) (k : Key) (n : ℕ) → Closable a → counts_in_limit a k ≡ true → stays_in_limit a k n ≡ true → Closable (turned a k n)
turned_closable a Debit n c counts stays =
    let s = and_parts (leb (a.debits.total + n) most) _ stays in
    let l = c.limits in
    record {
      head = c.head;
      limits = record { debits = omega (arith, ltb-true a.debits.count 99999 counts); debited = leb-true (a.debits.total + n) most s.0; credits = l.credits; credited = l.credited };
      final = omega (arith, in_balance (owed_to a + 0) (owed_by a + n) s.1);
    }
turned_closable a Credit n c counts stays =
    let s = and_parts (leb (a.credits.total + n) most) _ stays in
    let l = c.limits in
    record {
      head = c.head;
      limits = record { debits = l.debits; debited = l.debited; credits = omega (arith, ltb-true a.credits.count 99999 counts); credited = leb-true (a.credits.total + n) most s.0 };
      final = omega (arith, in_balance (owed_to a + n) (owed_by a + 0) s.1);
    }

-- and so can the account that is open after any record that passes its checks
pub closable_after : (kind : Kind) (texts taken : ℕ) (a : OpenAccount) (r : List ℕ) → length r ≡ 80 → judged (checks kind texts taken a) r ≡ None → Closable a → Closable (account_after a r kind)
closable_after Account texts taken a r long h c = opened_closable r long h
closable_after Movement texts taken a r long h c =
    let m = movement_gives a r long h in
    turned_closable a (key_at 28 r) (number_at 29 42 r) c m.1 m.2
closable_after Text texts taken a r long h c = c
closable_after Equivalent texts taken a r long h c = c
closable_after AccountEnd texts taken a r long h c = c
closable_after FileEnd texts taken a r long h c = c
