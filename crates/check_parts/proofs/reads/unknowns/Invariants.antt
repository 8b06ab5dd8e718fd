use Rattle.std.proofs.Common.{◌≡◌, map, take}
use Rattle.check_parts.proofs.OwnReads.{unknown_of}
use Rattle.check_parts.proofs.reads.unknowns.Given as goal

abbrev pub invariant-loop-signal : goal.invariant-loop-signal
invariant-loop-signal l = l.values.items ≡ map unknown_of (take l.signal-index l.design.signals.items)
