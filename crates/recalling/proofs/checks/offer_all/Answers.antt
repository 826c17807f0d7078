use Rattle.std.proofs.Common.{map, ap, ◌∙◌}
use Rattle.composing.specs.Parts.{composed}
use Rattle.reading.proofs.Progress.{new_at_start}
use Rattle.recalling.specs.Remaining.{left}
use Rattle.recalling.proofs.Midway.{start}
use Rattle.recalling.proofs.checks.offer_all.Goals as goal

pub loop-composed-init : goal.loop-composed-init
loop-composed-init c = start _ _ _ (new_at_start _ c.new-reading.ensures) c.new-reading.ensures.none_taken (ap left c.into_iter-composed-iterator.ensures.into_iter_gives ∙ ap (map composed) c.new-composed-items.ensures)
