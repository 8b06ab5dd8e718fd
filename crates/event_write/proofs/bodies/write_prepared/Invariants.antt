use Rattle.std.proofs.Common.{◌≡◌, map, drop}
use Rattle.event_model.specs.Queue.{write_all}
use Rattle.event_write.specs.Entries.{all_writes, entry}
use Rattle.event_write.specs.QueueState.{IsQueueState, design_of, state}
use Rattle.event_write.proofs.bodies.write_prepared.Given as goal

abbrev pub invariant-loop-number : goal.invariant-loop-number
invariant-loop-number l =
    IsQueueState (design_of l.fanout) l.queue
    × (l.queue.scratch ≡ l.initial.queue.scratch)
    × (l.queue.waiting ≡ l.initial.queue.waiting)
    × (l.queue.active ≡ l.initial.queue.active)
    × (l.queue.next ≡ l.initial.queue.next)
    × (l.queue.woken.levels ≡ l.initial.queue.woken.levels)
    × (write_all (design_of l.fanout) (state l.queue) (all_writes (map entry (drop l.number l.initial.queue.scratch.items))) ≡ write_all (design_of l.fanout) (state l.initial.queue) (all_writes (map entry l.initial.queue.scratch.items)))
