use Rattle.std.proofs.Common.{◌≡◌, ◌+◌, ◌*◌, map, drop}
use Rattle.std.specs.Prelude.{max}
use Rattle.rtl_flat.specs.Process.{action, body_of}
use Rattle.rtl_flat.specs.WellFormed.{statements}
use Rattle.rtl_scan.specs.Bodies.{branches_of}
use Rattle.rtl_scan.specs.Loads.{load, other_load, items_load}
use Rattle.net_body.specs.Levels.{branch_levels, levels_of}
use Rattle.net_body.proofs.rooms.+depths.Given as goal

abbrev pub invariant-depth_of-loop-act : goal.invariant-depth_of-loop-act
invariant-depth_of-loop-act l =
    max l.most (levels_of (body_of (map action (drop l.act-index l.acts)))) ≡ levels_of (body_of (map action l.acts))

abbrev pub invariant-item_depth-loop-item : goal.invariant-item_depth-loop-item
invariant-item_depth-loop-item l =
    max l.most (branch_levels (branches_of (drop l.item-index l.items))) ≡ branch_levels (branches_of l.items)

abbrev pub decreases-depth_of : goal.decreases-depth_of
decreases-depth_of l = 4 * load l.acts.now + 1

abbrev pub decreases-depth : goal.decreases-depth
decreases-depth l = 4 * statements (action l.act.now)

abbrev pub decreases-other_depth : goal.decreases-other_depth
decreases-other_depth l = 4 * other_load l.body.now + 2

abbrev pub decreases-item_depth : goal.decreases-item_depth
decreases-item_depth l = 4 * items_load l.items.now + 2
