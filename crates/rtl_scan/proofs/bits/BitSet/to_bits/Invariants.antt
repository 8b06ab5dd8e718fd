use Rattle.std.proofs.Common.{◌≡◌, ◌++◌}
use Rattle.rtl_scan.specs.Sets.{rows_of}
use Rattle.rtl_scan.proofs.bits.BitSet.to_bits.Given as goal

abbrev pub invariant-loop-signal : goal.invariant-loop-signal
invariant-loop-signal l = l.rows.items ++ rows_of l.signal-iterator ≡ rows_of l.self.masks.entries
