use Rattle.std.proofs.Common.{◌≡◌, drop, map}
use Rattle.std.specs.List.{All}
use Rattle.rtl_flat.specs.Process.{piece}
use Rattle.rtl_flat.specs.Signs.{width_in}
use Rattle.rtl_flat.specs.WellFormed.{IsFixed}
use Rattle.event_model.specs.Queue.{net_writes, resolved, write_all}
use Rattle.event_write.specs.Entries.{AreSelected}
use Rattle.event_write.specs.QueueState.{IsQueueState, design_of, state}
use Rattle.event_take.specs.Rooms.{IsStill}
use Rattle.event_take.proofs.updates.write_nets.Given as goal

abbrev pub invariant-loop-part : goal.invariant-loop-part
invariant-loop-part l =
    IsQueueState (design_of l.fanout) l.queue
    × IsStill l.initial.queue l.queue
    × (l.queue.drivers ≡ l.initial.queue.drivers)
    × AreSelected l.fanout.design.now.signals.items (map piece (drop l.part-index l.parts))
    × All (λ piece. IsFixed piece.selection) (map piece (drop l.part-index l.parts))
    × (write_all (design_of l.fanout) (state l.queue) (net_writes (width_in l.fanout.design.now.signals.items) (resolved (design_of l.fanout) (state l.initial.queue).driver) (map piece (drop l.part-index l.parts))) ≡ write_all (design_of l.fanout) (state l.initial.queue) (net_writes (width_in l.fanout.design.now.signals.items) (resolved (design_of l.fanout) (state l.initial.queue).driver) (map piece l.parts)))
