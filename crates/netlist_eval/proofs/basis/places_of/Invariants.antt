use Rattle.std.proofs.Common.{◌≡◌, take}
use Rattle.net_start.specs.Stored.{places}
use Rattle.netlist_eval.proofs.basis.places_of.Given as goal

abbrev pub invariant-loop-signal : goal.invariant-loop-signal
invariant-loop-signal l = l.found.items ≡ places (take l.signal-index l.signals)
