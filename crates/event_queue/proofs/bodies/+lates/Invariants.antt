use Rattle.std.proofs.Common.{◌≡◌, ◌+◌, ◌*◌, map, drop}
use Rattle.rtl_flat.specs.Process.{action, body_of}
use Rattle.rtl_flat.specs.WellFormed.{statements}
use Rattle.event_tables.specs.rtl_scan.Bodies.{branches_of}
use Rattle.event_tables.specs.rtl_scan.Loads.{load, other_load, items_load}
use Rattle.event_model.specs.Policies.{nonblocking_branches, nonblocking_in}
use Rattle.event_tables.specs.event_write.Rooms.{branch_rooms, rooms}
use Rattle.event_queue.proofs.bodies.+lates.Given as goal

abbrev pub invariant-late_in-loop-act : goal.invariant-late_in-loop-act
invariant-late_in-loop-act l =
    (l.found.count + nonblocking_in (body_of (map action (drop l.act-index l.acts))) ≡ nonblocking_in (body_of (map action l.acts)))
    × (l.found.parts + rooms (body_of (map action (drop l.act-index l.acts))) ≡ rooms (body_of (map action l.acts)))

abbrev pub invariant-late_items-loop-item : goal.invariant-late_items-loop-item
invariant-late_items-loop-item l =
    (l.found.count + nonblocking_branches (branches_of (drop l.item-index l.items)) ≡ nonblocking_branches (branches_of l.items))
    × (l.found.parts + branch_rooms (branches_of (drop l.item-index l.items)) ≡ branch_rooms (branches_of l.items))

abbrev pub decreases-late_in : goal.decreases-late_in
decreases-late_in l = 4 * load l.acts.now + 1

abbrev pub decreases-late_of : goal.decreases-late_of
decreases-late_of l = 4 * statements (action l.act.now)

abbrev pub decreases-late_other : goal.decreases-late_other
decreases-late_other l = 4 * other_load l.body.now + 2

abbrev pub decreases-late_items : goal.decreases-late_items
decreases-late_items l = 4 * items_load l.items.now + 3
