use Rattle.std.proofs.Common.{length}
use Rattle.desk_steps.proofs.value.+digits_bits.Given as goal

abbrev pub decreases-digits_bits : goal.decreases-digits_bits
decreases-digits_bits l = length l.digits.now
