use Rattle.std.proofs.Common.{◌≡◌, length}
use Rattle.vcd_signals.specs.Signals.{below}
use Rattle.vcd_signals.proofs.keys.below.Given as goal

abbrev pub invariant-loop-byte : goal.invariant-loop-byte
invariant-loop-byte l = below l.path ≡ below l.rest

abbrev pub decreases-loop-byte : goal.decreases-loop-byte
decreases-loop-byte l = length l.rest
