use Rattle.std.proofs.Common.{arith}
use Rattle.std.proofs.lemmas.Grind.{common_steps}
use Rattle.desk_numbers.proofs.Numbers.{next_digit}
use Rattle.desk_numbers.proofs.number.number_up_to.Goals as goal

pub loop-digit-preserved : goal.loop-digit-preserved
loop-digit-preserved c = record {
  rest = next_digit c.args.most c.loop-digit.number c.loop-digit.digit-index c.min-number.result c.args.text.now
      (omega arith) (grind (arith, common_steps)) c.loop-digit.invariant.rest;
  capped = omega arith;
}
