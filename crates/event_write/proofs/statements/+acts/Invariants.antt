use Rattle.std.proofs.Common.{◌≡◌, ◌≤◌, ◌+◌, ◌*◌, map, drop, length, vec_capacity}
use Rattle.rtl_flat.specs.Process.{action, body_of}
use Rattle.rtl_flat.specs.Signs.{width_in}
use Rattle.rtl_flat.specs.Value.{store}
use Rattle.rtl_flat.specs.WellFormed.{IsBody, statements}
use Rattle.rtl_scan.specs.Loads.{load, other_load, items_load}
use Rattle.event_model.specs.Bodies.{body_made}
use Rattle.event_model.specs.Queue.{perform_all}
use Rattle.event_write.specs.QueueState.{IsQueueState, design_of, state}
use Rattle.event_write.specs.Rooms.{rooms}
use Rattle.event_write.proofs.statements.+acts.Given as goal

abbrev pub invariant-make_all-loop-act : goal.invariant-make_all-loop-act
invariant-make_all-loop-act l =
    IsQueueState (design_of l.fanout) l.queue
    × IsBody l.fanout.design.now.signals.items (body_of (map action (drop l.act-index l.acts)))
    × (vec_capacity l.initial.queue.waiting ≤ vec_capacity l.queue.waiting)
    × (vec_capacity l.initial.queue.scratch ≤ vec_capacity l.queue.scratch)
    × (length l.queue.waiting.items + rooms (body_of (map action (drop l.act-index l.acts))) ≤ length l.initial.queue.waiting.items + rooms (body_of (map action l.acts)))
    × (l.queue.active ≡ l.initial.queue.active)
    × (l.queue.next ≡ l.initial.queue.next)
    × (l.queue.woken.levels ≡ l.initial.queue.woken.levels)
    × (perform_all (design_of l.fanout) (state l.queue) (body_made (width_in l.fanout.design.now.signals.items) (store l.queue.values.items) (body_of (map action (drop l.act-index l.acts)))) ≡ perform_all (design_of l.fanout) (state l.initial.queue) (body_made (width_in l.fanout.design.now.signals.items) (store l.initial.queue.values.items) (body_of (map action l.acts))))

abbrev pub decreases-make_all : goal.decreases-make_all
decreases-make_all l = 4 * load l.acts.now + 1

abbrev pub decreases-make : goal.decreases-make
decreases-make l = 4 * statements (action l.act.now)

abbrev pub decreases-make_other : goal.decreases-make_other
decreases-make_other l = 4 * other_load l.body.now + 2

abbrev pub decreases-make_case : goal.decreases-make_case
decreases-make_case l = 4 * (items_load l.items.now + other_load l.fallback.now) + 3
