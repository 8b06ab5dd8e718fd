-- The lengths of what the operators make.
use Rattle.rtl_bits.specs.Inside.{length-tabulate}

pub ruleset widths = (length-tabulate)
