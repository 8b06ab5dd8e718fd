use Rattle.std.proofs.Common.{◌≡◌, ◌+◌, ◌*◌, map, drop}
use Rattle.rtl_flat.specs.Process.{action, body_of}
use Rattle.rtl_flat.specs.WellFormed.{statements}
use Rattle.rtl_flat.specs.Flats.{flat}
use Rattle.check_parts.specs.rtl_scan.Bodies.{branches_of}
use Rattle.check_parts.specs.rtl_scan.Loads.{load, other_load, items_load}
use Rattle.check_case.specs.Least.{first_of_all, first_of_items, lesser}
use Rattle.check_case.proofs.first.+least.Given as goal

abbrev pub invariant-first_of_all-loop-one : goal.invariant-first_of_all-loop-one
invariant-first_of_all-loop-one l =
    lesser l.first (first_of_all (flat l.design) (body_of (map action (drop l.one-index l.body)))) ≡ first_of_all (flat l.design) (body_of (map action l.body))

abbrev pub invariant-first_of_items-loop-item : goal.invariant-first_of_items-loop-item
invariant-first_of_items-loop-item l =
    lesser l.first (first_of_items (flat l.design) (branches_of (drop l.item-index l.items))) ≡ first_of_items (flat l.design) (branches_of l.items)

abbrev pub decreases-first_in : goal.decreases-first_in
decreases-first_in l = 4 * statements (action l.one.now)

abbrev pub decreases-first_of_all : goal.decreases-first_of_all
decreases-first_of_all l = 4 * load l.body.now + 1

abbrev pub decreases-first_of_other : goal.decreases-first_of_other
decreases-first_of_other l = 4 * other_load l.other.now + 2

abbrev pub decreases-first_of_items : goal.decreases-first_of_items
decreases-first_of_items l = 4 * items_load l.items.now + 2
