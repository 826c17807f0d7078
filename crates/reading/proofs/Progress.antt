-- What the answers of a reading say of its progress. Assumes nothing.
use Rattle.std.proofs.Common.{◌≡◌, ℕ, ◌+◌, List, sym, refl, ap, ◌∙◌}
use Rattle.reading.specs.Taken.{New, Moved, refusal_of}
use Rattle.reading.specs.Progress.{Progress, progress, at_start, refused, moved, moved_to, after}
use Rattle.reading.specs.declared.kinds.Kind.{Kind}
use Rattle.reading.specs.declared.readings.Reading.{Reading}

pub new_at_start : (s : Reading) → New s → progress s ≡ at_start
unfolding at_start
new_at_start s n = rw (n.at_start, n.none_taken, n.no_account) refl

pub refused_is : (s : Reading) (o : List ℕ) → refusal_of s o ≡ refused (progress s) o
unfolding refused
refused_is s o = refl

pub moved_after : (s s' : Reading) (o : List ℕ) (kind : Kind) → Moved s s' o kind → progress s' ≡ after (progress s) o
unfolding after
moved_after s s' o kind m =
    sym (ap (moved (progress s) o) m.kind_there ∙ (ap (moved_to (progress s) o kind) m.phase_after ∙ rw (m.one_more, m.account_now) refl))

-- one record more is taken
pub taken_after : (s s' : Reading) (o : List ℕ) (kind : Kind) → Moved s s' o kind → (after (progress s) o).taken ≡ s.taken + 1
taken_after s s' o kind m = ap (λ (p : Progress). p.taken) (sym (moved_after s s' o kind m)) ∙ m.one_more
