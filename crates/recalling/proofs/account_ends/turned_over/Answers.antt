use Rattle.std.proofs.Common.{rules, tests, ap, ◌∙◌}
use Rattle.std.specs.List.{fold}
use Rattle.std.proofs.lemmas.Iterator.{YieldsList-from_slice}
use Rattle.std.proofs.lemmas.Iterator.Consumers.{fold_from_yields_List}
use Rattle.recalling.proofs.Turning.{step, turned_all}
use Rattle.recalling.proofs.account_ends.turned_over.Goals as goal

pub returns : goal.returns
returns c =
    fold_from_yields_List _ step _ _ c.fold.ensures.ran (YieldsList-from_slice c.args.own.now cc) (λ a x b q k. search (rules, tests))
    ∙ (ap (λ a. fold step a c.args.own.now) c.new.ensures ∙ turned_all c.args.account.now c.args.own.now)
