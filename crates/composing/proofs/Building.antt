-- One part more in a composer. Assumes nothing.
use Rattle.std.proofs.Common.{◌≡◌, ℕ, ◌+◌, ◌-◌, ◌≤◌, true, false, List, ◌++◌, length, take, drop, Some, None, Ok, Err, Option, Result, sym, refl, ap, ◌∙◌, add-one, arith, length-drop, length-take}
use borrow.Rule.Slice.PartMut.{put_mid}
use Rattle.std.specs.Option.{option_or}
use Rattle.std.proofs.lemmas.List.{length-take-le}
use Rattle.std.proofs.lemmas.Slice.{take-put_mid}
use Rattle.std.proofs.lemmas.Bool.{cond-true, cond-false}
use Rattle.composing.specs.Building.{unless_unfit}
use Rattle.composing.specs.Parts.{Part, spelled, part_fits, part_characters, added}
use Rattle.composing.specs.declared.refusals.Unfit.{Unfit}

-- how long a part behind the filled columns is
pub length-behind : (cs : List ℕ) (a w : ℕ) → a + w ≤ length cs → length (take (a + w - a) (drop a cs)) ≡ w
length-behind cs a w room = omega (arith, length-take (a + w - a) (drop a cs), length-drop a cs)

-- a part that fits, and one that does not
pub put : (cs part : List ℕ) (a k n : ℕ) (u : Option Unfit) (p : Part) → a ≤ length cs → n ≡ a + length part → part ≡ part_characters p → part_fits p ≡ true → unless_unfit (take n (put_mid a k cs part)) u ≡ added (unless_unfit (take a cs) u) p
unfolding added
put cs part a k n (Some e) p low long is fit = refl
put cs part a k n None p low long is fit =
    ap Ok (take-put_mid a k cs part n long low ∙ ap (λ q. take a cs ++ q) is) ∙ sym (cond-true (part_fits p) _ _ fit)

pub refused : (cs ds : List ℕ) (a : ℕ) (u : Option Unfit) (p : Part) → a ≤ length cs → part_fits p ≡ false → unless_unfit ds (option_or u (Some (record { column = a + 1 }))) ≡ added (unless_unfit (take a cs) u) p
unfolding added
refused cs ds a (Some e) p low unfit = refl
refused cs ds a None p low unfit =
    let long = length-take-le a cs low in
    ap (λ n. Err (record { column = n })) (rw (long, add-one) refl) ∙ sym (cond-false (part_fits p) _ _ unfit)

-- parts one behind the other
pub next : (r s t : Result (List ℕ) Unfit) (p q : Part) → r ≡ added s p → s ≡ t → p ≡ q → r ≡ added t q
next r s t p q h k same = h ∙ (ap (λ x. added x p) k ∙ ap (added t) same)

pub same_number : (w m n : ℕ) → m ≡ n → spelled w m ≡ spelled w n
same_number w m n h = ap (spelled w) h

pub ruleset chain = (next, same_number)
