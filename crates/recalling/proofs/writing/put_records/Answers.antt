use Rattle.std.proofs.Common.{map, ap, ◌∙◌}
use Rattle.composing.specs.Parts.{composed}
use Rattle.recalling.specs.Remaining.{left}
use Rattle.recalling.proofs.Putting.{start}
use Rattle.recalling.proofs.writing.put_records.Goals as goal

pub loop-composed-init : goal.loop-composed-init
loop-composed-init g c = start _ _ _ _ _ c.requires.checked c.requires.places (ap left c.into_iter-composed-iterator.ensures.into_iter_gives ∙ ap (map composed) c.new-composed-items.ensures)
