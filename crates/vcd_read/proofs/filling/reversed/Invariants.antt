use Rattle.std.proofs.Common.{◌≡◌, ◌+◌, ◌∷◌, [], length}
use Rattle.vcd_read.specs.Filling.{reversed}
use Rattle.vcd_read.proofs.filling.reversed.Given as goal

abbrev pub invariant-loop-bit : goal.invariant-loop-bit
invariant-loop-bit l =
    (reversed l.made l.rest ≡ reversed (l.fn.first ∷ []) l.others) × (length l.made + length l.rest ≡ length l.others + 1)

abbrev pub decreases-loop-bit : goal.decreases-loop-bit
decreases-loop-bit l = length l.rest
