use Rattle.std.proofs.Common.{rules}
use Rattle.records.proofs.Marks.{marked}
use Rattle.records.proofs.columns.mark.Goals as goal

pub returns : goal.returns
returns g c =
    marked g.T.TryFrom.try_from_gives c.args.field.from c.args.field.to c.args.offered.now _ c.try_from.result _ _ c.in_ok-digit.ensures.refusal c.in_ok-digit.ensures.number c.try_from.ensures c.map_err.ensures.cases (λ x e q. search rules)
