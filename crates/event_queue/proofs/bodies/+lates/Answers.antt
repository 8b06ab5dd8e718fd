use Rattle.std.proofs.Common.{◌≡◌, ◌<◌, ◌+◌, ◌*◌, List, map, ap, arith}
use Rattle.rtl_flat.specs.declared.act.Act.{Act}
use Rattle.rtl_flat.specs.declared.act.CaseItem.{CaseItem}
use Rattle.rtl_flat.specs.Process.{action, body_of}
use Rattle.rtl_flat.specs.WellFormed.{statements}
use Rattle.event_tables.specs.rtl_scan.Bodies.{branches_of}
use Rattle.event_tables.specs.rtl_scan.Loads.{load, other_load, items_load}
use Rattle.event_tables.proofs.rtl_scan_proofs.Labels.{left_at}
use Rattle.event_tables.proofs.rtl_scan_proofs.Weights.{act_load, block_load, case_load, if_load, item_load}
use Rattle.event_model.specs.Policies.{nonblocking, nonblocking_branches, nonblocking_in}
use Rattle.event_tables.specs.event_write.Rooms.{branch_rooms, room, rooms}
use Rattle.event_tables.proofs.event_write_proofs.Making.{block_action, case_action, if_action}
use Rattle.event_queue.proofs.bodies.+lates.Goals as goal

-- ---- statements in order

pub late_in-late_of-requires : goal.late_in-late_of-requires
late_in-late_of-requires t c =
    let left = left_at c.args.acts.now c.loop-act.act-index c.act-item.result c.loop-act-test.true c.act-item.is in
    let part = act_load c.args.acts.now c.loop-act.act-index c.act-item.result c.loop-act-test.true c.act-item.is in
    let measure : 4 * load c.args.acts.now + 1 ≡ t = c.decreases in
    let less : 4 * statements (action c.act-item.result) < t = omega (arith, part, measure) in
    let count = ap (λ (xs : List Act). nonblocking_in (body_of (map action xs))) left in
    let parts = ap (λ (xs : List Act). rooms (body_of (map action xs))) left in
    let counted = c.loop-act.invariant.0 in
    let entered = c.loop-act.invariant.1 in
    let few = c.requires.count_fits in
    let fits = c.requires.parts_fit in
    (less, record { count_fits = omega (arith, count, counted, few); parts_fit = omega (arith, parts, entered, fits) })

-- ---- items in order

pub late_items-late_in-requires : goal.late_items-late_in-requires
late_items-late_in-requires t c =
    let left = left_at c.args.items.now c.loop-item.item-index c.item-item.result c.loop-item-test.true c.item-item.is in
    let part = item_load c.args.items.now c.loop-item.item-index c.item-item.result c.loop-item-test.true c.item-item.is in
    let here = ap load c.deref.ensures.value in
    let measure : 4 * items_load c.args.items.now + 3 ≡ t = c.decreases in
    let less : 4 * load c.deref.result.now + 1 < t = omega (arith, part, here, measure) in
    let count = ap (λ (xs : List CaseItem). nonblocking_branches (branches_of xs)) left in
    let parts = ap (λ (xs : List CaseItem). branch_rooms (branches_of xs)) left in
    let one = ap (λ (xs : List Act). nonblocking_in (body_of (map action xs))) c.deref.ensures.value in
    let some = ap (λ (xs : List Act). rooms (body_of (map action xs))) c.deref.ensures.value in
    let counted = c.loop-item.invariant.0 in
    let entered = c.loop-item.invariant.1 in
    let few = c.requires.count_fits in
    let fits = c.requires.parts_fit in
    (less, record { count_fits = omega (arith, count, one, counted, few); parts_fit = omega (arith, parts, some, entered, fits) })

-- ---- an `if`

pub late_of-late_in-requires : goal.late_of-late_in-requires
late_of-late_in-requires t c =
    let is = if_action c.args.act.now c.in-If.test c.in-If.yes c.in-If.no c.in-If.spot c.in-If.is in
    let weight = if_load c.args.act.now c.in-If.test c.in-If.yes c.in-If.no c.in-If.spot c.in-If.is in
    let count = ap nonblocking is in
    let parts = ap room is in
    let few = c.requires.count_fits in
    let fits = c.requires.parts_fit in
    let measure : 4 * statements (action c.args.act.now) ≡ t = c.decreases in
    let here = ap load c.deref.ensures.value in
    let less : 4 * load c.deref.result.now + 1 < t = omega (arith, weight, here, measure) in
    let one = ap (λ (xs : List Act). nonblocking_in (body_of (map action xs))) c.deref.ensures.value in
    let some = ap (λ (xs : List Act). rooms (body_of (map action xs))) c.deref.ensures.value in
    (less, record { count_fits = omega (arith, count, one, few); parts_fit = omega (arith, parts, some, fits) })

pub late_of-late_other-requires : goal.late_of-late_other-requires
late_of-late_other-requires t c =
    let is = if_action c.args.act.now c.in-If.test c.in-If.yes c.in-If.no c.in-If.spot c.in-If.is in
    let weight = if_load c.args.act.now c.in-If.test c.in-If.yes c.in-If.no c.in-If.spot c.in-If.is in
    let count = ap nonblocking is in
    let parts = ap room is in
    let few = c.requires.count_fits in
    let fits = c.requires.parts_fit in
    let measure : 4 * statements (action c.args.act.now) ≡ t = c.decreases in
    let less : 4 * other_load c.in-If.no + 2 < t = omega (arith, weight, measure) in
    (less, record { count_fits = omega (arith, count, few); parts_fit = omega (arith, parts, fits) })

pub late_of-and-requires : goal.late_of-and-requires
late_of-and-requires t c =
    let is = if_action c.args.act.now c.in-If.test c.in-If.yes c.in-If.no c.in-If.spot c.in-If.is in
    let weight = if_load c.args.act.now c.in-If.test c.in-If.yes c.in-If.no c.in-If.spot c.in-If.is in
    let count = ap nonblocking is in
    let parts = ap room is in
    let few = c.requires.count_fits in
    let fits = c.requires.parts_fit in
    let one = ap (λ (xs : List Act). nonblocking_in (body_of (map action xs))) c.deref.ensures.value in
    let some = ap (λ (xs : List Act). rooms (body_of (map action xs))) c.deref.ensures.value in
    let found = c.late_in.ensures.count_is in
    let found_parts = c.late_in.ensures.parts_is in
    let other = c.late_other.ensures.count_is in
    let other_parts = c.late_other.ensures.parts_is in
    record {
      count_fits = omega (arith, count, one, few, found, other);
      parts_fit = omega (arith, parts, some, fits, found_parts, other_parts);
    }

pub late_of-returns-in-If : goal.late_of-returns-in-If
late_of-returns-in-If t c =
    let is = if_action c.args.act.now c.in-If.test c.in-If.yes c.in-If.no c.in-If.spot c.in-If.is in
    let count = ap nonblocking is in
    let parts = ap room is in
    let one = ap (λ (xs : List Act). nonblocking_in (body_of (map action xs))) c.deref.ensures.value in
    let some = ap (λ (xs : List Act). rooms (body_of (map action xs))) c.deref.ensures.value in
    let found = c.late_in.ensures.count_is in
    let found_parts = c.late_in.ensures.parts_is in
    let other = c.late_other.ensures.count_is in
    let other_parts = c.late_other.ensures.parts_is in
    let both = c.and.ensures.count_is in
    let both_parts = c.and.ensures.parts_is in
    record {
      count_is = omega (arith, count, one, found, other, both);
      parts_is = omega (arith, parts, some, found_parts, other_parts, both_parts);
    }

-- ---- a case

pub late_of-late_items-requires : goal.late_of-late_items-requires
late_of-late_items-requires t c =
    let is = case_action c.args.act.now c.in-Case.kind c.in-Case.full c.in-Case.parallel c.in-Case.selector c.in-Case.items c.in-Case.fallback c.in-Case.spot c.in-Case.is in
    let weight = case_load c.args.act.now c.in-Case.kind c.in-Case.full c.in-Case.parallel c.in-Case.selector c.in-Case.items c.in-Case.fallback c.in-Case.spot c.in-Case.is in
    let count = ap nonblocking is in
    let parts = ap room is in
    let few = c.requires.count_fits in
    let fits = c.requires.parts_fit in
    let measure : 4 * statements (action c.args.act.now) ≡ t = c.decreases in
    let here = ap items_load c.deref-in-Case.ensures.value in
    let less : 4 * items_load c.deref-in-Case.result.now + 3 < t = omega (arith, weight, here, measure) in
    let one = ap (λ (xs : List CaseItem). nonblocking_branches (branches_of xs)) c.deref-in-Case.ensures.value in
    let some = ap (λ (xs : List CaseItem). branch_rooms (branches_of xs)) c.deref-in-Case.ensures.value in
    (less, record { count_fits = omega (arith, count, one, few); parts_fit = omega (arith, parts, some, fits) })

pub late_of-late_other-requires-in-Case : goal.late_of-late_other-requires-in-Case
late_of-late_other-requires-in-Case t c =
    let is = case_action c.args.act.now c.in-Case.kind c.in-Case.full c.in-Case.parallel c.in-Case.selector c.in-Case.items c.in-Case.fallback c.in-Case.spot c.in-Case.is in
    let weight = case_load c.args.act.now c.in-Case.kind c.in-Case.full c.in-Case.parallel c.in-Case.selector c.in-Case.items c.in-Case.fallback c.in-Case.spot c.in-Case.is in
    let count = ap nonblocking is in
    let parts = ap room is in
    let few = c.requires.count_fits in
    let fits = c.requires.parts_fit in
    let measure : 4 * statements (action c.args.act.now) ≡ t = c.decreases in
    let less : 4 * other_load c.in-Case.fallback + 2 < t = omega (arith, weight, measure) in
    (less, record { count_fits = omega (arith, count, few); parts_fit = omega (arith, parts, fits) })

pub late_of-and-requires-in-Case : goal.late_of-and-requires-in-Case
late_of-and-requires-in-Case t c =
    let is = case_action c.args.act.now c.in-Case.kind c.in-Case.full c.in-Case.parallel c.in-Case.selector c.in-Case.items c.in-Case.fallback c.in-Case.spot c.in-Case.is in
    let count = ap nonblocking is in
    let parts = ap room is in
    let few = c.requires.count_fits in
    let fits = c.requires.parts_fit in
    let one = ap (λ (xs : List CaseItem). nonblocking_branches (branches_of xs)) c.deref-in-Case.ensures.value in
    let some = ap (λ (xs : List CaseItem). branch_rooms (branches_of xs)) c.deref-in-Case.ensures.value in
    let found = c.late_items.ensures.count_is in
    let found_parts = c.late_items.ensures.parts_is in
    let other = c.late_other-in-Case.ensures.count_is in
    let other_parts = c.late_other-in-Case.ensures.parts_is in
    record {
      count_fits = omega (arith, count, one, few, found, other);
      parts_fit = omega (arith, parts, some, fits, found_parts, other_parts);
    }

pub late_of-returns-in-Case : goal.late_of-returns-in-Case
late_of-returns-in-Case t c =
    let is = case_action c.args.act.now c.in-Case.kind c.in-Case.full c.in-Case.parallel c.in-Case.selector c.in-Case.items c.in-Case.fallback c.in-Case.spot c.in-Case.is in
    let count = ap nonblocking is in
    let parts = ap room is in
    let one = ap (λ (xs : List CaseItem). nonblocking_branches (branches_of xs)) c.deref-in-Case.ensures.value in
    let some = ap (λ (xs : List CaseItem). branch_rooms (branches_of xs)) c.deref-in-Case.ensures.value in
    let found = c.late_items.ensures.count_is in
    let found_parts = c.late_items.ensures.parts_is in
    let other = c.late_other-in-Case.ensures.count_is in
    let other_parts = c.late_other-in-Case.ensures.parts_is in
    let both = c.and-in-Case.ensures.count_is in
    let both_parts = c.and-in-Case.ensures.parts_is in
    record {
      count_is = omega (arith, count, one, found, other, both);
      parts_is = omega (arith, parts, some, found_parts, other_parts, both_parts);
    }

-- ---- a block

pub late_of-late_in-requires-in-Block : goal.late_of-late_in-requires-in-Block
late_of-late_in-requires-in-Block t c =
    let is = block_action c.args.act.now c.in-Block.body c.in-Block.is in
    let weight = block_load c.args.act.now c.in-Block.body c.in-Block.is in
    let count = ap nonblocking is in
    let parts = ap room is in
    let few = c.requires.count_fits in
    let fits = c.requires.parts_fit in
    let measure : 4 * statements (action c.args.act.now) ≡ t = c.decreases in
    let here = ap load c.deref-in-Block.ensures.value in
    let less : 4 * load c.deref-in-Block.result.now + 1 < t = omega (arith, weight, here, measure) in
    let one = ap (λ (xs : List Act). nonblocking_in (body_of (map action xs))) c.deref-in-Block.ensures.value in
    let some = ap (λ (xs : List Act). rooms (body_of (map action xs))) c.deref-in-Block.ensures.value in
    (less, record { count_fits = omega (arith, count, one, few); parts_fit = omega (arith, parts, some, fits) })

pub late_of-returns-in-Block : goal.late_of-returns-in-Block
late_of-returns-in-Block t c =
    let is = block_action c.args.act.now c.in-Block.body c.in-Block.is in
    let count = ap nonblocking is in
    let parts = ap room is in
    let one = ap (λ (xs : List Act). nonblocking_in (body_of (map action xs))) c.deref-in-Block.ensures.value in
    let some = ap (λ (xs : List Act). rooms (body_of (map action xs))) c.deref-in-Block.ensures.value in
    let found = c.late_in-in-Block.ensures.count_is in
    let found_parts = c.late_in-in-Block.ensures.parts_is in
    record {
      count_is = omega (arith, count, one, found);
      parts_is = omega (arith, parts, some, found_parts);
    }
