use Rattle.std.proofs.Common.{◌≡◌, map, drop}
use Rattle.event_model.specs.Queue.{offer}
use Rattle.event_tables.specs.event_write.QueueState.{IsQueueState, design_of, state}
use Rattle.event_take.specs.Rooms.{IsStill}
use Rattle.event_queue.specs.Offers.{AreAllowed, set_of}
use Rattle.event_queue.proofs.offering.offer_all.Given as goal

abbrev pub invariant-loop-setting : goal.invariant-loop-setting
invariant-loop-setting l =
    IsQueueState (design_of l.fanout) l.queue
    × IsStill l.initial.queue l.queue
    × AreAllowed (design_of l.fanout) (drop l.setting-index l.settings)
    × (offer (state l.queue) (map set_of (drop l.setting-index l.settings)) ≡ offer (state l.initial.queue) (map set_of l.settings))
