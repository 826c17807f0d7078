use Rattle.std.proofs.Common.{◌∙◌}
use Rattle.rows.specs.Tables.{room_in}
use Rattle.archiving.proofs.Midway.{holds_is}
use Rattle.guarantee.proofs.Wholes.{read_as_whole, rows_kept}
use Rattle.guarantee.proofs.holdings.read.Goals as goal

pub returns-clause-whole : goal.returns-clause-whole
returns-clause-whole g c = λ each. read_as_whole (room_in c.args.tables.now) (g.C.Carrier.records c.args.carrier.now) (g.C.Carrier.ending c.args.carrier.now) each _ _ c.read.ensures.answer c.read.ensures.left

pub returns-clause-kept : goal.returns-clause-kept
returns-clause-kept g c = λ each file. holds_is _ _ _ c.read.ensures.tables ∙ rows_kept (room_in c.args.tables.now) (g.C.Carrier.records c.args.carrier.now) (g.C.Carrier.ending c.args.carrier.now) each file
