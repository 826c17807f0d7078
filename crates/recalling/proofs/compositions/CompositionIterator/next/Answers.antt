use Rattle.std.proofs.Common.{◌≡◌, [], ◌∷◌, ◌++◌, map, sym, ap, ◌∙◌}
use Rattle.std.proofs.lemmas.List.{map-append}
use Rattle.composing.specs.Parts.{composed}
use Rattle.recalling.specs.Remaining.{attached, attached_left, behind, remaining, left}
use Rattle.recalling.specs.declared.attachments.Attachments.{Attachments}
use Rattle.recalling.specs.declared.compositions.Composition.{Composition}
use Rattle.recalling.proofs.Composing.{nearer, from_same, none_made}
use Rattle.recalling.proofs.compositions.CompositionIterator.next.Goals as goal

-- with other attachments, of which none is still to come either
detached : (s : Composition) (a : Attachments) → (attached_left s.attached ≡ []) × (attached_left a ≡ []) → remaining s ≡ remaining (record { accounts = s.accounts; movements = s.movements; texts = s.texts; begun = s.begun; attached = a })
unfolding remaining
detached s a none = ap (λ l. l ++ behind s.accounts.now s.movements.now s.texts.now s.begun) (none_made _ none.0 ∙ sym (none_made _ none.1))

pub returns-in-Some-clause-steps : goal.returns-in-Some-clause-steps
unfolding remaining
returns-in-Some-clause-steps c =
    let s = c.args.self.now in
    let others = behind s.accounts.now s.movements.now s.texts.now s.begun in
    map-append composed (attached s.attached) others
    ∙ (ap (λ l. l ++ map composed others) c.in-Some.ensures.steps
    ∙ ap (λ l. c.in-Some.composed ∷ l) (sym (map-append composed (attached c.next.new.self) others)))

pub returns-in-Some-clause-goes : goal.returns-in-Some-clause-goes
returns-in-Some-clause-goes c = nearer left _ _ _ (returns-in-Some-clause-steps c)

pub returns-in-Some-begun-clause-steps : goal.returns-in-Some-begun-clause-steps
returns-in-Some-begun-clause-steps c =
    ap (map composed) (detached c.args.self.now c.next.new.self c.in_default.ensures.steps) ∙ c.go_on.ensures

pub returns-in-Some-begun-clause-goes : goal.returns-in-Some-begun-clause-goes
returns-in-Some-begun-clause-goes c = nearer left _ _ _ (returns-in-Some-begun-clause-steps c)

pub returns-in-None-clause-steps : goal.returns-in-None-clause-steps
returns-in-None-clause-steps c =
    from_same left _ _ _ _ (ap (map composed) (detached c.args.self.now c.next.new.self c.in_default.ensures.steps)) c.begin.ensures

pub returns-in-None-clause-goes : goal.returns-in-None-clause-goes
returns-in-None-clause-goes c = nearer left _ _ _ (returns-in-None-clause-steps c)
