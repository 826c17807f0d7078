use Rattle.std.proofs.Common.{◌≡◌, length, sym, subst, arith, rules}
use Rattle.records.proofs.Judging.{IsRead, read, columns_long}
use Rattle.records.proofs.columns.digits.Goals as goal

pub returns : goal.returns
returns c =
    let a = c.args.field.from in
    let b = c.args.field.to in
    let r = c.args.offered.now in
    let whole : length r ≡ 80 = search rules in
    let all = read a b r c.read_number.result c.refused.result c.read_number.ensures.value c.refused.ensures (columns_long a b r whole (omega arith)) (omega arith) in
    let is = subst (IsRead a b r) (sym c.ok_or.ensures.value) all in
    record { refusal = is.0; number = is.1; bound = is.2 }
