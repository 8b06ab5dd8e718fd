use Rattle.std.proofs.Common.{arith, ◌+◌, ◌-◌, ◌<◌, ◌≤◌, length}
use Rattle.desk_report.proofs.Digits.{written}
use Rattle.desk_report.proofs.value.+push_hex.Goals as goal

pub returns : goal.returns
returns t c =
    let many : 4 < length c.args.value = grind (arith, c.width-width.ensures.exact, c.if-width-le4.false) in
    let whole : length c.args.value ≤ 4 + (c.width-width.result - 4) = grind (arith, c.width-width.ensures.exact) in
    written c.args.value c.select.result (c.width-width.result - 4) c.lowest_digit-digit.result c.args.out.now.items c.push_hex.new.out.items c.push-2.new.self.items many whole c.select.ensures.bits c.lowest_digit-digit.ensures c.in_ok-push_hex.ensures c.in_ok-push-2.ensures.items
