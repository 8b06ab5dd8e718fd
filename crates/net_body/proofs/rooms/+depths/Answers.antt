use Rattle.std.proofs.Common.{◌≡◌, ◌<◌, ◌+◌, ◌*◌, ◌∙◌, List, map, ap, sym, arith}
use Rattle.rtl_flat.specs.declared.act.Act.{Act}
use Rattle.rtl_flat.specs.declared.act.CaseItem.{CaseItem}
use Rattle.rtl_flat.specs.Process.{action, body_of}
use Rattle.rtl_flat.specs.WellFormed.{statements}
use Rattle.rtl_scan.specs.Bodies.{branches_of}
use Rattle.rtl_scan.specs.Loads.{load, other_load, items_load}
use Rattle.rtl_scan.proofs.Weights.{if_load, case_load, block_load, act_load, item_load}
use Rattle.net_body.specs.Levels.{branch_levels, levels, levels_of}
use Rattle.net_body.proofs.Choosing.{block_action, case_action, if_action}
use Rattle.net_body.proofs.Depths.{body_less, branch_less, cond_one, levels_less}
use Rattle.net_body.proofs.rooms.+depths.Goals as goal

-- ---- statements in order

pub depth_of-depth-requires : goal.depth_of-depth-requires
depth_of-depth-requires t c =
    let part = act_load c.args.acts.now c.loop-act.act-index c.act-item.result c.loop-act-test.true c.act-item.is in
    let measure : 4 * load c.args.acts.now + 1 ≡ t = c.decreases in
    let fits = c.requires in
    let less : 4 * statements (action c.act-item.result) < t = omega (arith, part, measure) in
    (less, omega (arith, part, fits))

pub depth_of-returns-clause-at_most : goal.depth_of-returns-clause-at_most
depth_of-returns-clause-at_most t c =
    let inv = c.loop-act.invariant in
    let all = body_less (body_of (map action c.args.acts.now)) in
    omega (arith, inv, all)

-- ---- one statement

pub depth-depth_of-requires : goal.depth-depth_of-requires
depth-depth_of-requires t c =
    let part = if_load c.args.act.now c.in-If.test c.in-If.yes c.in-If.no c.in-If.spot c.in-If.is in
    let measure : 4 * statements (action c.args.act.now) ≡ t = c.decreases in
    let same = ap load c.deref.ensures.value in
    let fits = c.requires in
    let less : 4 * load c.deref.result.now + 1 < t = omega (arith, part, measure, same) in
    (less, omega (arith, part, same, fits))

pub depth-other_depth-requires : goal.depth-other_depth-requires
depth-other_depth-requires t c =
    let part = if_load c.args.act.now c.in-If.test c.in-If.yes c.in-If.no c.in-If.spot c.in-If.is in
    let measure : 4 * statements (action c.args.act.now) ≡ t = c.decreases in
    let fits = c.requires in
    let less : 4 * other_load c.in-If.no + 2 < t = omega (arith, part, measure) in
    (less, omega (arith, part, fits))

pub depth-item_depth-deepest-requires : goal.depth-item_depth-deepest-requires
depth-item_depth-deepest-requires t c =
    let part = case_load c.args.act.now c.in-Case.kind c.in-Case.full c.in-Case.parallel c.in-Case.selector c.in-Case.items c.in-Case.fallback c.in-Case.spot c.in-Case.is in
    let measure : 4 * statements (action c.args.act.now) ≡ t = c.decreases in
    let same = ap items_load c.deref-in-Case.ensures.value in
    let fits = c.requires in
    let less : 4 * items_load c.deref-in-Case.result.now + 2 < t = omega (arith, part, measure, same) in
    (less, omega (arith, part, same, fits))

pub depth-overflow_add-own : goal.depth-overflow_add-own
depth-overflow_add-own t c =
    let part = case_load c.args.act.now c.in-Case.kind c.in-Case.full c.in-Case.parallel c.in-Case.selector c.in-Case.items c.in-Case.fallback c.in-Case.spot c.in-Case.is in
    let same = ap items_load c.deref-in-Case.ensures.value in
    let fits = c.requires in
    let own = c.own_depth-own.ensures in
    let one = cond_one c.in-Case.parallel in
    let deepest = c.item_depth-deepest.ensures.at_most in
    omega (arith, part, same, fits, own, one, deepest)

pub depth-other_depth-requires-in-Case : goal.depth-other_depth-requires-in-Case
depth-other_depth-requires-in-Case t c =
    let part = case_load c.args.act.now c.in-Case.kind c.in-Case.full c.in-Case.parallel c.in-Case.selector c.in-Case.items c.in-Case.fallback c.in-Case.spot c.in-Case.is in
    let measure : 4 * statements (action c.args.act.now) ≡ t = c.decreases in
    let fits = c.requires in
    let less : 4 * other_load c.in-Case.fallback + 2 < t = omega (arith, part, measure) in
    (less, omega (arith, part, fits))

pub depth-depth_of-requires-in-Block : goal.depth-depth_of-requires-in-Block
depth-depth_of-requires-in-Block t c =
    let part = block_load c.args.act.now c.in-Block.body c.in-Block.is in
    let measure : 4 * statements (action c.args.act.now) ≡ t = c.decreases in
    let same = ap load c.deref-in-Block.ensures.value in
    let fits = c.requires in
    let less : 4 * load c.deref-in-Block.result.now + 1 < t = omega (arith, part, measure, same) in
    (less, omega (arith, part, same, fits))

pub depth-returns-in-If-clause-exact : goal.depth-returns-in-If-clause-exact
depth-returns-in-If-clause-exact t c =
    let is = ap levels (if_action c.args.act.now c.in-If.test c.in-If.yes c.in-If.no c.in-If.spot c.in-If.is) in
    let one = c.depth_of.ensures.exact in
    let same = ap (λ (xs : List Act). levels_of (body_of (map action xs))) c.deref.ensures.value in
    let two = c.other_depth.ensures.exact in
    let most = c.max.ensures in
    omega (arith, is, one, same, two, most)

pub depth-returns-in-If-clause-at_most : goal.depth-returns-in-If-clause-at_most
depth-returns-in-If-clause-at_most t c =
    let is = ap levels (if_action c.args.act.now c.in-If.test c.in-If.yes c.in-If.no c.in-If.spot c.in-If.is) in
    let one = c.depth_of.ensures.exact in
    let same = ap (λ (xs : List Act). levels_of (body_of (map action xs))) c.deref.ensures.value in
    let two = c.other_depth.ensures.exact in
    let most = c.max.ensures in
    let all = levels_less (action c.args.act.now) in
    omega (arith, is, one, same, two, most, all)

pub depth-returns-in-Case-clause-exact : goal.depth-returns-in-Case-clause-exact
depth-returns-in-Case-clause-exact t c =
    let is = ap levels (case_action c.args.act.now c.in-Case.kind c.in-Case.full c.in-Case.parallel c.in-Case.selector c.in-Case.items c.in-Case.fallback c.in-Case.spot c.in-Case.is) in
    let own = c.own_depth-own.ensures in
    let deepest = c.item_depth-deepest.ensures.exact in
    let same = ap (λ (xs : List CaseItem). branch_levels (branches_of xs)) c.deref-in-Case.ensures.value in
    let two = c.other_depth-in-Case.ensures.exact in
    let most = c.max-in-Case.ensures in
    omega (arith, is, own, deepest, same, two, most)

pub depth-returns-in-Case-clause-at_most : goal.depth-returns-in-Case-clause-at_most
depth-returns-in-Case-clause-at_most t c =
    let is = ap levels (case_action c.args.act.now c.in-Case.kind c.in-Case.full c.in-Case.parallel c.in-Case.selector c.in-Case.items c.in-Case.fallback c.in-Case.spot c.in-Case.is) in
    let own = c.own_depth-own.ensures in
    let deepest = c.item_depth-deepest.ensures.exact in
    let same = ap (λ (xs : List CaseItem). branch_levels (branches_of xs)) c.deref-in-Case.ensures.value in
    let two = c.other_depth-in-Case.ensures.exact in
    let most = c.max-in-Case.ensures in
    let all = levels_less (action c.args.act.now) in
    omega (arith, is, own, deepest, same, two, most, all)

pub depth-returns-in-Block-clause-exact : goal.depth-returns-in-Block-clause-exact
depth-returns-in-Block-clause-exact t c =
    c.depth_of-in-Block.ensures.exact
    ∙ ap (λ (xs : List Act). levels_of (body_of (map action xs))) c.deref-in-Block.ensures.value
    ∙ sym (ap levels (block_action c.args.act.now c.in-Block.body c.in-Block.is))

pub depth-returns-in-Block-clause-at_most : goal.depth-returns-in-Block-clause-at_most
depth-returns-in-Block-clause-at_most t c =
    let part = block_load c.args.act.now c.in-Block.body c.in-Block.is in
    let same = ap load c.deref-in-Block.ensures.value in
    let most = c.depth_of-in-Block.ensures.at_most in
    omega (arith, part, same, most)

-- ---- items

pub item_depth-depth_of-requires : goal.item_depth-depth_of-requires
item_depth-depth_of-requires t c =
    let part = item_load c.args.items.now c.loop-item.item-index c.item-item.result c.loop-item-test.true c.item-item.is in
    let measure : 4 * items_load c.args.items.now + 2 ≡ t = c.decreases in
    let same = ap load c.deref.ensures.value in
    let fits = c.requires in
    let less : 4 * load c.deref.result.now + 1 < t = omega (arith, part, measure, same) in
    (less, omega (arith, part, same, fits))

pub item_depth-returns-clause-at_most : goal.item_depth-returns-clause-at_most
item_depth-returns-clause-at_most t c =
    let inv = c.loop-item.invariant in
    let all = branch_less (branches_of c.args.items.now) in
    omega (arith, inv, all)
