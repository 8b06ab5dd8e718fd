use Rattle.std.proofs.Common.{◌≡◌, ◌<◌, ◌+◌, ◌*◌, ◌∙◌, ◌&&◌, not, List, length, map, drop, Option, ap, sym, subst, arith}
use Rattle.std.specs.Prelude.{Vec}
use Rattle.std.specs.declared.alloc.Global.{Global}
use Rattle.std.specs.List.{All}
use Rattle.std.proofs.lemmas.List.{at_drop_all}
use Rattle.rtl_flat.specs.declared.act.Act.{Act}
use Rattle.rtl_flat.specs.declared.act.CaseItem.{CaseItem}
use Rattle.rtl_flat.specs.declared.act.TargetPart.{TargetPart}
use Rattle.rtl_flat.specs.Expression.{tree}
use Rattle.rtl_flat.specs.Flows.{action_then, body_flow, may_target, other_flow}
use Rattle.rtl_flat.specs.Paths.{End, may_write_blocking, may_write_delayed}
use Rattle.rtl_flat.specs.Process.{Action, action, body_of, piece}
use Rattle.rtl_flat.specs.Signs.{width_in}
use Rattle.rtl_flat.specs.WellFormed.{IsAction, IsBody, statements}
use Rattle.rtl_scan.specs.Bodies.{branches_of, other_of}
use Rattle.rtl_scan.specs.Loads.{load, other_load, items_load}
use Rattle.rtl_scan.proofs.Labels.{left_at}
use Rattle.rtl_scan.proofs.Weights.{if_load, case_load, block_load, act_load, item_load}
use Rattle.net_model.specs.Block.{filled_case}
use Rattle.net_body.specs.Bodies.{AreBodies, items_late, items_now}
use Rattle.net_body.specs.Marks.{maps}
use Rattle.net_body.proofs.Choosing.{are_bodies, block_action, case_action, if_action}
use Rattle.net_body.proofs.Filled.{case_filled, filled_none, if_filled, item_filled, set_filled, then_filled}
use Rattle.net_body.proofs.Targets.{parts_below}
use Rattle.net_body.proofs.fills.+fills.Goals as goal

-- ---- one statement

pub fill_one-fill_parts-requires-clause-there : goal.fill_one-fill_parts-requires-clause-there
fill_one-fill_parts-requires-clause-there t c =
    let signals = c.args.design.now.signals.items in
    let lawful = subst (λ (a : Act). IsAction signals (action a)) c.in-Set.is c.requires.act in
    subst (λ (ps : List TargetPart). All (λ part. part.signal.0 < length signals) ps) (sym c.deref.ensures.value) (parts_below signals c.in-Set.target.parts.items lawful.parts)

pub fill_one-returns-in-Set-clause-maps : goal.fill_one-returns-in-Set-clause-maps
fill_one-returns-in-Set-clause-maps t c =
    let f = c.args.fill in
    let m = maps c.args.numbers.now c.args.marks.now in
    let ws = width_in c.args.design.now.signals.items in
    let d = c.in-Set.delayed in
    c.fill_parts.ensures.maps
    ∙ ap (λ (ps : List TargetPart). filled_case f (λ i k. not d && may_target ws (map piece ps) i k) (λ i k. d && may_target ws (map piece ps) i k) m) c.deref.ensures.value
    ∙ set_filled f ws m (map piece c.in-Set.target.parts.items) (tree c.in-Set.value) d c.in-Set.spot
    ∙ ap (λ (a : Act). filled_case f (may_write_blocking (action_then ws (action a) End)) (may_write_delayed (action_then ws (action a) End)) m) (sym c.in-Set.is)

pub fill_one-fill_other-requires : goal.fill_one-fill_other-requires
fill_one-fill_other-requires t c =
    let signals = c.args.design.now.signals.items in
    let is = if_action c.args.act.now c.in-If.test c.in-If.yes c.in-If.no c.in-If.spot c.in-If.is in
    let lawful = subst (IsAction signals) is c.requires.act in
    let part = if_load c.args.act.now c.in-If.test c.in-If.yes c.in-If.no c.in-If.spot c.in-If.is in
    let measure : 4 * statements (action c.args.act.now) ≡ t = c.decreases in
    let less : 4 * other_load c.in-If.no + 2 < t = omega (arith, part, measure) in
    (less, (lawful.2, c.requires.kept))

pub fill_one-fill_all-requires : goal.fill_one-fill_all-requires
fill_one-fill_all-requires t c =
    let signals = c.args.design.now.signals.items in
    let is = if_action c.args.act.now c.in-If.test c.in-If.yes c.in-If.no c.in-If.spot c.in-If.is in
    let lawful = subst (IsAction signals) is c.requires.act in
    let value = c.deref-in-If.ensures.value in
    let part = if_load c.args.act.now c.in-If.test c.in-If.yes c.in-If.no c.in-If.spot c.in-If.is in
    let measure : 4 * statements (action c.args.act.now) ≡ t = c.decreases in
    let same = ap load value in
    let less : 4 * load c.deref-in-If.result.now + 1 < t = omega (arith, part, measure, same) in
    (less, (subst (λ (xs : List Act). IsBody signals (body_of (map action xs))) (sym value) lawful.1, c.fill_other.ensures.kept))

pub fill_one-returns-in-If-clause-maps : goal.fill_one-returns-in-If-clause-maps
fill_one-returns-in-If-clause-maps t c =
    let f = c.args.fill in
    let m = maps c.args.numbers.now c.args.marks.now in
    let n = maps c.fill_other.new.numbers c.fill_other.new.marks in
    let ws = width_in c.args.design.now.signals.items in
    let is = if_action c.args.act.now c.in-If.test c.in-If.yes c.in-If.no c.in-If.spot c.in-If.is in
    c.fill_all.ensures.maps
    ∙ ap (λ (xs : List Act). filled_case f (may_write_blocking (body_flow ws (body_of (map action xs)))) (may_write_delayed (body_flow ws (body_of (map action xs)))) n) c.deref-in-If.ensures.value
    ∙ if_filled f ws m (tree c.in-If.test) (body_of (map action c.in-If.yes.items)) (other_of c.in-If.no) c.in-If.spot n c.fill_other.ensures.maps
    ∙ ap (λ (a : Action). filled_case f (may_write_blocking (action_then ws a End)) (may_write_delayed (action_then ws a End)) m) (sym is)

pub fill_one-fill_other-requires-in-Case : goal.fill_one-fill_other-requires-in-Case
fill_one-fill_other-requires-in-Case t c =
    let signals = c.args.design.now.signals.items in
    let is = case_action c.args.act.now c.in-Case.kind c.in-Case.full c.in-Case.parallel c.in-Case.selector c.in-Case.items c.in-Case.fallback c.in-Case.spot c.in-Case.is in
    let lawful = subst (IsAction signals) is c.requires.act in
    let part = case_load c.args.act.now c.in-Case.kind c.in-Case.full c.in-Case.parallel c.in-Case.selector c.in-Case.items c.in-Case.fallback c.in-Case.spot c.in-Case.is in
    let measure : 4 * statements (action c.args.act.now) ≡ t = c.decreases in
    let less : 4 * other_load c.in-Case.fallback + 2 < t = omega (arith, part, measure) in
    (less, (lawful.2, c.requires.kept))

pub fill_one-fill_items-requires : goal.fill_one-fill_items-requires
fill_one-fill_items-requires t c =
    let signals = c.args.design.now.signals.items in
    let is = case_action c.args.act.now c.in-Case.kind c.in-Case.full c.in-Case.parallel c.in-Case.selector c.in-Case.items c.in-Case.fallback c.in-Case.spot c.in-Case.is in
    let lawful = subst (IsAction signals) is c.requires.act in
    let value = c.deref-in-Case.ensures.value in
    let part = case_load c.args.act.now c.in-Case.kind c.in-Case.full c.in-Case.parallel c.in-Case.selector c.in-Case.items c.in-Case.fallback c.in-Case.spot c.in-Case.is in
    let measure : 4 * statements (action c.args.act.now) ≡ t = c.decreases in
    let same = ap items_load value in
    let less : 4 * items_load c.deref-in-Case.result.now + 2 < t = omega (arith, part, measure, same) in
    (less, (subst (λ (xs : List CaseItem). AreBodies signals (branches_of xs)) (sym value) (are_bodies signals (tree c.in-Case.selector) (branches_of c.in-Case.items.items) lawful.1), c.fill_other-in-Case.ensures.kept))

pub fill_one-returns-in-Case-clause-maps : goal.fill_one-returns-in-Case-clause-maps
fill_one-returns-in-Case-clause-maps t c =
    let f = c.args.fill in
    let m = maps c.args.numbers.now c.args.marks.now in
    let n = maps c.fill_other-in-Case.new.numbers c.fill_other-in-Case.new.marks in
    let ws = width_in c.args.design.now.signals.items in
    let is = case_action c.args.act.now c.in-Case.kind c.in-Case.full c.in-Case.parallel c.in-Case.selector c.in-Case.items c.in-Case.fallback c.in-Case.spot c.in-Case.is in
    c.fill_items.ensures.maps
    ∙ ap (λ (xs : List CaseItem). filled_case f (items_now ws (branches_of xs)) (items_late ws (branches_of xs)) n) c.deref-in-Case.ensures.value
    ∙ case_filled f ws m c.in-Case.kind c.in-Case.full c.in-Case.parallel (tree c.in-Case.selector) (branches_of c.in-Case.items.items) (other_of c.in-Case.fallback) c.in-Case.spot n c.fill_other-in-Case.ensures.maps
    ∙ ap (λ (a : Action). filled_case f (may_write_blocking (action_then ws a End)) (may_write_delayed (action_then ws a End)) m) (sym is)

pub fill_one-fill_all-requires-in-Block : goal.fill_one-fill_all-requires-in-Block
fill_one-fill_all-requires-in-Block t c =
    let signals = c.args.design.now.signals.items in
    let is = block_action c.args.act.now c.in-Block.body c.in-Block.is in
    let lawful = subst (IsAction signals) is c.requires.act in
    let value = c.deref-in-Block.ensures.value in
    let part = block_load c.args.act.now c.in-Block.body c.in-Block.is in
    let measure : 4 * statements (action c.args.act.now) ≡ t = c.decreases in
    let same = ap load value in
    let less : 4 * load c.deref-in-Block.result.now + 1 < t = omega (arith, part, measure, same) in
    (less, (subst (λ (xs : List Act). IsBody signals (body_of (map action xs))) (sym value) lawful, c.requires.kept))

pub fill_one-returns-in-Block-clause-maps : goal.fill_one-returns-in-Block-clause-maps
fill_one-returns-in-Block-clause-maps t c =
    let f = c.args.fill in
    let m = maps c.args.numbers.now c.args.marks.now in
    let ws = width_in c.args.design.now.signals.items in
    let is = block_action c.args.act.now c.in-Block.body c.in-Block.is in
    c.fill_all-in-Block.ensures.maps
    ∙ ap (λ (xs : List Act). filled_case f (may_write_blocking (body_flow ws (body_of (map action xs)))) (may_write_delayed (body_flow ws (body_of (map action xs)))) m) c.deref-in-Block.ensures.value
    ∙ ap (λ (a : Action). filled_case f (may_write_blocking (action_then ws a End)) (may_write_delayed (action_then ws a End)) m) (sym is)

-- ---- statements in order

pub fill_all-fill_one-requires : goal.fill_all-fill_one-requires
fill_all-fill_one-requires t c =
    let signals = c.args.design.now.signals.items in
    let inv = c.loop-act.invariant in
    let left = left_at c.args.acts.now c.loop-act.act-index c.act-item.result c.loop-act-test.true c.act-item.is in
    let lawful = subst (λ (xs : List Act). IsBody signals (body_of (map action xs))) left inv.1 in
    let part = act_load c.args.acts.now c.loop-act.act-index c.act-item.result c.loop-act-test.true c.act-item.is in
    let measure : 4 * load c.args.acts.now + 1 ≡ t = c.decreases in
    let less : 4 * statements (action c.act-item.result) < t = omega (arith, part, measure) in
    (less, (lawful.0, inv.0))

pub fill_all-loop-act-preserved : goal.fill_all-loop-act-preserved
fill_all-loop-act-preserved t c =
    let f = c.args.fill in
    let signals = c.args.design.now.signals.items in
    let ws = width_in signals in
    let inv = c.loop-act.invariant in
    let others = body_of (map action (drop (c.loop-act.act-index + 1) c.args.acts.now)) in
    let left = left_at c.args.acts.now c.loop-act.act-index c.act-item.result c.loop-act-test.true c.act-item.is in
    let lawful = subst (λ (xs : List Act). IsBody signals (body_of (map action xs))) left inv.1 in
    let m = maps c.loop-act.numbers c.loop-act.marks in
    let n = maps c.fill_one.new.numbers c.fill_one.new.marks in (
      c.fill_one.ensures.kept,
      lawful.1,
      then_filled f ws m (action c.act-item.result) others n c.fill_one.ensures.maps
          ∙ ap (λ (xs : List Act). filled_case f (may_write_blocking (body_flow ws (body_of (map action xs)))) (may_write_delayed (body_flow ws (body_of (map action xs)))) m) (sym left)
          ∙ inv.2,
    )

pub fill_all-returns-clause-maps : goal.fill_all-returns-clause-maps
fill_all-returns-clause-maps t c =
    let f = c.args.fill in
    let ws = width_in c.args.design.now.signals.items in
    let m = maps c.loop-act.numbers c.loop-act.marks in
    sym (filled_none f m)
    ∙ sym (at_drop_all (λ (xs : List Act). filled_case f (may_write_blocking (body_flow ws (body_of (map action xs)))) (may_write_delayed (body_flow ws (body_of (map action xs)))) m) c.args.acts.now c.loop-act.act-index c.loop-act-test.false)
    ∙ c.loop-act.invariant.2

-- ---- a body that may be left out

pub fill_other-returns-in-None-clause-maps : goal.fill_other-returns-in-None-clause-maps
fill_other-returns-in-None-clause-maps t c =
    let f = c.args.fill in
    let ws = width_in c.args.design.now.signals.items in
    let m = maps c.args.numbers.now c.args.marks.now in
    sym (filled_none f m)
    ∙ sym (ap (λ (o : Option (Vec Act Global)). filled_case f (may_write_blocking (other_flow ws (other_of o))) (may_write_delayed (other_flow ws (other_of o))) m) c.in-None.is)

-- ---- items of a case

pub fill_items-fill_all-requires : goal.fill_items-fill_all-requires
fill_items-fill_all-requires t c =
    let signals = c.args.design.now.signals.items in
    let inv = c.loop-item.invariant in
    let left = left_at c.args.items.now c.loop-item.item-index c.item-item.result c.loop-item-test.true c.item-item.is in
    let lawful = subst (λ (xs : List CaseItem). AreBodies signals (branches_of xs)) left inv.1 in
    let part = item_load c.args.items.now c.loop-item.item-index c.item-item.result c.loop-item-test.true c.item-item.is in
    let value = c.deref.ensures.value in
    let same = ap load value in
    let measure : 4 * items_load c.args.items.now + 2 ≡ t = c.decreases in
    let less : 4 * load c.deref.result.now + 1 < t = omega (arith, part, same, measure) in
    (less, (subst (λ (xs : List Act). IsBody signals (body_of (map action xs))) (sym value) lawful.0, inv.0))

pub fill_items-loop-item-preserved : goal.fill_items-loop-item-preserved
fill_items-loop-item-preserved t c =
    let f = c.args.fill in
    let signals = c.args.design.now.signals.items in
    let ws = width_in signals in
    let inv = c.loop-item.invariant in
    let item = c.item-item.result in
    let others = branches_of (drop (c.loop-item.item-index + 1) c.args.items.now) in
    let left = left_at c.args.items.now c.loop-item.item-index item c.loop-item-test.true c.item-item.is in
    let lawful = subst (λ (xs : List CaseItem). AreBodies signals (branches_of xs)) left inv.1 in
    let m = maps c.loop-item.numbers c.loop-item.marks in
    let n = maps c.fill_all.new.numbers c.fill_all.new.marks in (
      c.fill_all.ensures.kept,
      lawful.1,
      item_filled f ws m (map tree item.labels.items) (body_of (map action item.body.items)) others n
          (c.fill_all.ensures.maps ∙ ap (λ (xs : List Act). filled_case f (may_write_blocking (body_flow ws (body_of (map action xs)))) (may_write_delayed (body_flow ws (body_of (map action xs)))) m) c.deref.ensures.value)
          ∙ ap (λ (xs : List CaseItem). filled_case f (items_now ws (branches_of xs)) (items_late ws (branches_of xs)) m) (sym left)
          ∙ inv.2,
    )

pub fill_items-returns-clause-maps : goal.fill_items-returns-clause-maps
fill_items-returns-clause-maps t c =
    let f = c.args.fill in
    let ws = width_in c.args.design.now.signals.items in
    let m = maps c.loop-item.numbers c.loop-item.marks in
    sym (filled_none f m)
    ∙ sym (at_drop_all (λ (xs : List CaseItem). filled_case f (items_now ws (branches_of xs)) (items_late ws (branches_of xs)) m) c.args.items.now c.loop-item.item-index c.loop-item-test.false)
    ∙ c.loop-item.invariant.2

pub fill_other-returns-in-Some-clause-maps : goal.fill_other-returns-in-Some-clause-maps
fill_other-returns-in-Some-clause-maps t c =
    let f = c.args.fill in
    let ws = width_in c.args.design.now.signals.items in
    let m = maps c.args.numbers.now c.args.marks.now in
    c.fill_all.ensures.maps
    ∙ ap (λ (xs : List Act). filled_case f (may_write_blocking (body_flow ws (body_of (map action xs)))) (may_write_delayed (body_flow ws (body_of (map action xs)))) m) c.deref.ensures.value
    ∙ sym (ap (λ (o : Option (Vec Act Global)). filled_case f (may_write_blocking (other_flow ws (other_of o))) (may_write_delayed (other_flow ws (other_of o))) m) c.in-Some.is)
