use Rattle.std.proofs.Common.{◌∙◌}
use Rattle.recalling.proofs.Capping.{composed_end}
use Rattle.recalling.proofs.account_ends.compose_end.Goals as goal

pub returns : goal.returns
returns c =
    c.compose_account_end.ensures.answer ∙ composed_end c.args.account.now c.args.own.now _ _ c.turned_over-turned.ensures c.final_amount.ensures
