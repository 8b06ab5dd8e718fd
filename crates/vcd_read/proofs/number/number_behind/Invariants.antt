use Rattle.std.proofs.Common.{◌≡◌, ◌<◌, ◌^◌, length}
use Rattle.vcd_read.specs.Numbers.{number_behind}
use Rattle.vcd_read.proofs.number.number_behind.Given as goal

abbrev pub invariant-loop-digit : goal.invariant-loop-digit
invariant-loop-digit l = (number_behind l.number l.rest ≡ number_behind 0 l.text) × (l.number < 2 ^ 64)

abbrev pub decreases-loop-digit : goal.decreases-loop-digit
decreases-loop-digit l = length l.rest
