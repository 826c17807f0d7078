use Rattle.std.proofs.Common.{rules}
use Rattle.fields.proofs.Decimal.{room}
use Rattle.fields.proofs.decimals.has_room.Goals as goal

pub returns : goal.returns
returns c =
    let log = c.checked_ilog10.ensures in
    room c.args.width c.args.number c.checked_ilog10.result _ _ log.none log.power_le log.next_power_gt c.is_none_or.ensures (λ k p. search rules)
