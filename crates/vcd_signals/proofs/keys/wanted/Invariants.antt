use Rattle.std.proofs.Common.{take}
use Rattle.name_map.specs.Values.{values_of}
use Rattle.vcd_signals.specs.Keys.{AreWanted}
use Rattle.vcd_signals.proofs.keys.wanted.Given as goal

abbrev pub invariant-loop-signal : goal.invariant-loop-signal
invariant-loop-signal l = AreWanted l.scope (take l.signal-index l.signals) (values_of l.known)
