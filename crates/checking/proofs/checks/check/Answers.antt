use Rattle.std.proofs.Common.{◌≤◌, length, ap, ◌∙◌, arith}
use Rattle.std.specs.Option.{option_map}
use Rattle.std.specs.Result.{result_err}
use Rattle.archiving.specs.Numbers.{read_notice}
use Rattle.checking.proofs.Telling.{told, mapped}
use Rattle.checking.proofs.checks.check.Goals as goal

pub returns : goal.returns
returns c =
    let h = c.read.ensures in
    let short : length c.args.input.now ≤ 65536 = omega (arith, c.if-input-gt-MOST_BYTES.false) in
    let notice = mapped read_notice _ _ (λ _ _ is. is) c.map-notice.ensures.cases ∙ ap (λ o. option_map read_notice o) (c.err.ensures.value ∙ ap (λ r. result_err r) h.answer) in
    told _ _ _ _ _ _ _ _ short c.from.ensures c.new-volume.ensures notice (c.len.ensures ∙ h.tables.accounts.many) (c.len-2.ensures ∙ h.tables.movements.many) h.tables
