use Rattle.std.proofs.Common.{rules, ◌≡◌, length, Some, None, sym, refl, ap, ◌∙◌, subst, arith}
use Rattle.std.specs.Result.{result_err}
use Rattle.records.specs.Checks.{judged}
use Rattle.reading.specs.Limits.{texts_of}
use Rattle.reading.specs.Offers.{first_bad, kind_in, checks, field_cause}
use Rattle.reading.specs.Phases.{next}
use Rattle.reading.specs.Taken.{InLimits, Tells}
use Rattle.reading.specs.declared.refusals.Cause.TheVariants.{Field}
use Rattle.reading.proofs.Steps.{Limits, by_fields, numbered, few, in_limits, account_is, with_limits}
use Rattle.reading.proofs.readings.Reading.take.Goals as goal
use Rattle.reading.proofs.readings.Reading.take.Goals.{In_ok-phase, In_ok-entry}

-- the offered bytes are 80 characters of a kind that may follow
same : (c : goal.In_ok-phase) → c.in_ok-characters.characters.now ≡ c.args.offered.now
same c = search rules

long : (c : goal.In_ok-phase) → length c.args.offered.now ≡ 80
long c = search rules

good : (c : goal.In_ok-phase) → first_bad c.args.offered.now 0 ≡ None
good c = ap (λ l. first_bad l 0) (sym (same c)) ∙ sym c.in_default.ensures.index

is : (c : goal.In_ok-phase) → kind_in c.args.offered.now ≡ Some c.in_ok-kind.kind
is c = ap kind_in (sym (same c)) ∙ search rules

may : (c : goal.In_ok-phase) → next c.args.self.now.phase c.in_ok-kind.kind ≡ Some c.in_ok-phase.phase
may c = search rules

pub returns-in_err-entry-clause-cause : goal.returns-in_err-entry-clause-cause
returns-in_err-entry-clause-cause c =
    let was = (goal.at.returns-in_err-entry-clause-cause c).In_ok-phase in
    let s = c.args.self.now in
    let fields = by_fields s.phase c.in_ok-phase.phase s.taken s.account c.args.offered.now c.in_ok-kind.kind (long was) (good was) (is was) (may was) (omega (arith, c.last_number.ensures, c.if-self-last_number.false)) in
    let told : result_err c.from_residual-in_err-entry.result ≡ Some (Field c.in_err-entry.field-0.0) = search rules in
    let refusal : Some c.in_err-entry.field-0.0 ≡ judged (checks c.in_ok-kind.kind (texts_of s.phase) s.taken s.account) c.args.offered.now =
    sym (ap result_err c.in_err-entry.was) ∙ (c.entry.ensures.refusal ∙ ap (judged (checks c.in_ok-kind.kind (texts_of s.phase) s.taken s.account)) (same was)) in
    told ∙ (ap field_cause refusal ∙ sym fields)

-- the checks of the kind hold, and the entry is of that kind
checked : (c : goal.In_ok-entry) → None ≡ judged (checks c.in_ok-kind.kind (texts_of c.args.self.now.phase) c.args.self.now.taken c.args.self.now.account) c.args.offered.now
checked c =
    let s = c.args.self.now in
    sym (ap result_err c.in_ok-entry.was)
    ∙ (c.entry.ensures.refusal
    ∙ ap (judged (checks c.in_ok-kind.kind (texts_of s.phase) s.taken s.account)) (search rules))

told : (c : goal.In_ok-entry) → Tells c.args.self.now.account c.args.offered.now c.in_ok-entry.entry
told c = search rules

limits : (c : goal.In_ok-entry) → InLimits c.args.self.now.account c.in_ok-entry.entry
limits c =
    let s = c.args.self.now in
    in_limits s.account c.args.offered.now (texts_of s.phase) s.taken c.in_ok-entry.entry (told c) (checked c ∙ ap (λ k. judged (checks k (texts_of s.phase) s.taken s.account) c.args.offered.now) (sym c.in_ok-entry.ensures.kind))

pub account_with-account-requires : goal.account_with-account-requires
account_with-account-requires c = limits (goal.at.account_with-account-requires c).In_ok-entry

pub invariant_of-self : goal.invariant_of-self
invariant_of-self c =
    let s = c.args.self.now in
    let held : Limits s.account = record { debits = s.debits; debited = s.debited; credits = s.credits; credited = s.credited } in
    let l = subst Limits (sym c.account_with-account.ensures) (with_limits s.account c.in_ok-entry.entry held (limits (goal.at.invariant_of-self c).In_ok-entry)) in
    record {
      counted = omega (arith, numbered c.in_ok-kind.kind, c.last_number.ensures, c.if-self-last_number.false);
      few = few s.phase c.in_ok-kind.kind c.in_ok-phase.phase (may (goal.at.invariant_of-self c).In_ok-phase);
      debits = l.debits;
      debited = l.debited;
      credits = l.credits;
      credited = l.credited;
    }

pub returns : goal.returns
returns c =
    let was = (goal.at.returns c).In_ok-phase in
    let there = (goal.at.returns c).In_ok-entry in
    let s = c.args.self.now in
    let kind_is = c.in_ok-entry.ensures.kind in
    let fields = by_fields s.phase c.in_ok-phase.phase s.taken s.account c.args.offered.now c.in_ok-kind.kind (long was) (good was) (is was) (may was) (omega (arith, c.last_number.ensures, c.if-self-last_number.false)) in
    record {
      cause = ap field_cause (checked there) ∙ sym fields;
      tells = told there;
      after = record {
        kind_there = is was ∙ ap Some (sym kind_is);
        phase_after = ap (next s.phase) kind_is ∙ may was;
        one_more = refl;
        account_now = c.account_with-account.ensures ∙ account_is s.account c.args.offered.now c.in_ok-entry.entry (told there);
      };
    }
