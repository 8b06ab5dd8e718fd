use Rattle.std.proofs.Common.{◌≡◌, map, drop}
use Rattle.event_model.specs.Queue.{after_delayed}
use Rattle.event_write.specs.Entries.{entry, updates}
use Rattle.event_write.specs.QueueState.{IsQueueState, design_of, state}
use Rattle.event_take.proofs.events.make_update.Given as goal

abbrev pub invariant-loop-number : goal.invariant-loop-number
invariant-loop-number l =
    IsQueueState (design_of l.fanout) l.queue
    × (l.queue.next ≡ l.number)
    × (l.queue.active ≡ l.initial.queue.active)
    × (l.queue.waiting ≡ l.initial.queue.waiting)
    × (l.queue.scratch ≡ l.initial.queue.scratch)
    × (l.queue.woken.levels ≡ l.initial.queue.woken.levels)
    × (after_delayed (design_of l.fanout) (state l.queue) (updates (drop l.number (map entry l.initial.queue.active.items))) ≡ after_delayed (design_of l.fanout) (state l.initial.queue) (updates (drop l.initial.queue.next (map entry l.initial.queue.active.items))))
