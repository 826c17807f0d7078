use Rattle.std.proofs.Common.{◌≡◌, ◌<◌, length, get_or, sym, refl, ap, arith, rules}
use Rattle.charset.specs.Tables.{repeated}
use Rattle.charset.specs.Characters.{characters}
use Rattle.charset.proofs.code_table.making.CodeTableTryFromArrayU8CHARACTERCOUNT.try_from.Goals as goal
use Rattle.charset.proofs.Filling.{none, more, came_before}

pub returns-then-is_some : goal.returns-then-is_some
returns-then-is_some c =
    let long : length c.args.bytes ≡ 57 = search rules in
    let small : get_or c.args.bytes c.loop-place.place 0 < 256 = search rules in
    sym (ap repeated (came_before c.args.bytes characters c.loop-place.decoding c.loop-place.encoding c.loop-place.place long (omega arith) c.loop-place.invariant small (sym c.if-is_some.ensures)))

pub loop-place-init : goal.loop-place-init
loop-place-init c = none c.args.bytes characters

pub loop-place-preserved : goal.loop-place-preserved
loop-place-preserved c =
    let long : length c.args.bytes ≡ 57 = search rules in
    let small : get_or c.args.bytes c.loop-place.place 0 < 256 = search rules in
    let small' : get_or characters c.loop-place.place 0 < 256 = search rules in
    more c.args.bytes characters c.loop-place.decoding c.loop-place.encoding c.loop-place.place long (omega arith) c.loop-place.invariant small small' (sym c.if-is_some.ensures) refl
