use Rattle.desk_steps.proofs.value.sized_bits.Goals as goal
use Rattle.std.proofs.Common.{◌≡◌, ◌≤◌, ◌+◌, length, arith}
use Rattle.desk_steps.specs.Values.{digits_for, digit_width, digits_width}
use Rattle.desk_steps.proofs.Digits.{fits}

pub digits_bits-requires : goal.digits_bits-requires
digits_bits-requires c =
    let count : length c.in_ok-first.others.now + 1 ≡ digits_for c.args.base c.args.width = grind (arith, c.if-others-digits_for.false, c.digits_for.ensures) in
    let few : digit_width c.args.base + digits_width c.args.base c.in_ok-first.others.now ≤ 128 = fits c.args.base c.args.width c.in_ok-first.others.now c.requires count in
    grind (arith, few, c.in_ok-high.ensures.width)
