use Rattle.std.proofs.Common.{◌≡◌, ◌+◌, ◌*◌, map, drop}
use Rattle.rtl_flat.specs.Flows.{body_flow}
use Rattle.rtl_flat.specs.Paths.{may_write_blocking, may_write_delayed}
use Rattle.rtl_flat.specs.Process.{action, body_of}
use Rattle.rtl_flat.specs.Signs.{width_in}
use Rattle.rtl_flat.specs.WellFormed.{IsBody, statements}
use Rattle.rtl_scan.specs.Bodies.{branches_of}
use Rattle.rtl_scan.specs.Loads.{load, other_load, items_load}
use Rattle.net_model.specs.Block.{filled_case}
use Rattle.net_body.specs.Bodies.{AreBodies, items_late, items_now}
use Rattle.net_body.specs.Marks.{AreKept, maps}
use Rattle.net_body.proofs.fills.+fills.Given as goal

abbrev pub invariant-fill_all-loop-act : goal.invariant-fill_all-loop-act
invariant-fill_all-loop-act l =
    AreKept l.design.signals.items l.numbers l.marks
    × IsBody l.design.signals.items (body_of (map action (drop l.act-index l.acts)))
    × (filled_case l.fill (may_write_blocking (body_flow (width_in l.design.signals.items) (body_of (map action (drop l.act-index l.acts))))) (may_write_delayed (body_flow (width_in l.design.signals.items) (body_of (map action (drop l.act-index l.acts))))) (maps l.numbers l.marks)
    ≡ filled_case l.fill (may_write_blocking (body_flow (width_in l.design.signals.items) (body_of (map action l.acts)))) (may_write_delayed (body_flow (width_in l.design.signals.items) (body_of (map action l.acts)))) (maps l.initial.numbers l.initial.marks))

abbrev pub invariant-fill_items-loop-item : goal.invariant-fill_items-loop-item
invariant-fill_items-loop-item l =
    AreKept l.design.signals.items l.numbers l.marks
    × AreBodies l.design.signals.items (branches_of (drop l.item-index l.items))
    × (filled_case l.fill (items_now (width_in l.design.signals.items) (branches_of (drop l.item-index l.items))) (items_late (width_in l.design.signals.items) (branches_of (drop l.item-index l.items))) (maps l.numbers l.marks)
    ≡ filled_case l.fill (items_now (width_in l.design.signals.items) (branches_of l.items)) (items_late (width_in l.design.signals.items) (branches_of l.items)) (maps l.initial.numbers l.initial.marks))

abbrev pub decreases-fill_all : goal.decreases-fill_all
decreases-fill_all l = 4 * load l.acts.now + 1

abbrev pub decreases-fill_one : goal.decreases-fill_one
decreases-fill_one l = 4 * statements (action l.act.now)

abbrev pub decreases-fill_other : goal.decreases-fill_other
decreases-fill_other l = 4 * other_load l.body.now + 2

abbrev pub decreases-fill_items : goal.decreases-fill_items
decreases-fill_items l = 4 * items_load l.items.now + 2
