use Rattle.std.proofs.Common.{◌≡◌, ◌++◌, map, drop}
use Rattle.event_queue.specs.First.{first_value}
use Rattle.event_queue.proofs.first_queue.first_values.Given as goal

abbrev pub invariant-loop-signal : goal.invariant-loop-signal
invariant-loop-signal l =
    l.values.items ++ map first_value (drop l.signal-index l.design.signals.items) ≡ map first_value l.design.signals.items
