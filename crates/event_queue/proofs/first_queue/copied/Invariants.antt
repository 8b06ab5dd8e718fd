use Rattle.std.proofs.Common.{◌≡◌, ◌++◌, drop}
use Rattle.event_queue.proofs.first_queue.copied.Given as goal

abbrev pub invariant-loop-value : goal.invariant-loop-value
invariant-loop-value l =
    l.copy.items ++ drop l.value-index l.values ≡ l.values
