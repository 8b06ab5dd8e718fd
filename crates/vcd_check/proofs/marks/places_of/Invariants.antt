use Rattle.std.proofs.Common.{◌≡◌, take}
use Rattle.netlist_eval.specs.net_start.Stored.{places}
use Rattle.vcd_check.proofs.marks.places_of.Given as goal

abbrev pub invariant-loop-signal : goal.invariant-loop-signal
invariant-loop-signal l = l.found.items ≡ places (take l.signal-index l.signals)
