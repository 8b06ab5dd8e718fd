use Rattle.std.specs.Prelude.{List, map}
use Rattle.std.proofs.Common.{◌≡◌, ◌<◌, ◌+◌, ◌*◌, ap, sym, subst, arith, drop}
use Rattle.std.proofs.lemmas.List.{drop_all}
use Rattle.std.proofs.lemmas.Result.{on_ok_weaker, IfOk-weaker}
use Rattle.rtl_flat.specs.declared.act.Act.{Act}
use Rattle.rtl_flat.specs.declared.act.CaseItem.{CaseItem}
use Rattle.rtl_flat.specs.Expression.{tree}
use Rattle.rtl_flat.specs.Signs.{width_in}
use Rattle.rtl_flat.specs.Process.{action, body_of}
use Rattle.rtl_flat.specs.WellFormed.{statements}
use Rattle.rtl_flat.specs.Flows.{body_flow, other_flow}
use Rattle.rtl_scan.specs.Scan.{FlowScanned, FlowAlso, ItemsAlso}
use Rattle.rtl_scan.specs.Bodies.{branches_of, other_of}
use Rattle.rtl_scan.specs.Loads.{load, other_load, items_load}
use Rattle.rtl_scan.proofs.Labels.{left_at}
use Rattle.rtl_scan.proofs.Passes.{scanned_none, action_scanned, also_none, item_scanned}
use Rattle.rtl_scan.proofs.Statements.{set_done, block_done, if_done, case_done, default_done, open_done, closed_done, also_is, both_done}
use Rattle.rtl_scan.proofs.Weights.{if_load, case_load, block_load, act_load, item_load}
use Rattle.rtl_scan.proofs.steps.Pass.+pass.Goals as goal

pub statements-loop-act-preserved : goal.statements-loop-act-preserved
statements-loop-act-preserved t c = λ u log h.
    let ws = width_in c.args.self.now.widths.signals.now in
    c.loop-act.invariant u log
    (subst (λ (xs : List Act). FlowScanned c.args.self.now.counted (body_flow ws (body_of (map action xs))) c.loop-act.sets c.loop-act.log.items u log)
    (sym (left_at c.args.acts.now c.loop-act.act-index c.act-item.result c.loop-act-test.true c.act-item.is))
    (action_scanned c.args.self.now.counted ws (action c.act-item.result) (body_of (map action (drop (c.loop-act.act-index + 1) c.args.acts.now))) c.loop-act.sets c.statement.new.sets u c.loop-act.log.items c.statement.new.log.items log c.in_ok-statement.ensures h))

pub statements-returns : goal.statements-returns
statements-returns t c =
    let ws = width_in c.args.self.now.widths.signals.now in
    c.loop-act.invariant c.loop-act.sets c.loop-act.log.items
    (subst (λ (xs : List Act). FlowScanned c.args.self.now.counted (body_flow ws (body_of (map action xs))) c.loop-act.sets c.loop-act.log.items c.loop-act.sets c.loop-act.log.items)
    (sym (drop_all c.loop-act.act-index c.args.acts.now c.loop-act-test.false)) (scanned_none c.args.self.now.counted c.loop-act.sets c.loop-act.log.items))

pub also_items-loop-item-preserved : goal.also_items-loop-item-preserved
also_items-loop-item-preserved t c = λ u left h.
    let ws = width_in c.args.self.now.widths.signals.now in
    let also : FlowAlso c.args.self.now.counted (body_flow ws (body_of (map action c.item-item.result.body.items))) c.loop-item.sets c.loop-item.kept.items c.also_way.new.sets c.in_ok-kept.kept.items
    = also_is c.args.self.now.counted ws c.deref.result.now c.item-item.result.body.items c.deref.ensures.value c.deref-in-loop-item.result.now c.loop-item.kept.items c.deref-in-loop-item.ensures.value c.loop-item.sets c.also_way.new.sets c.in_ok-kept.kept.items c.in_ok-kept.ensures in
    c.loop-item.invariant u left
    (subst (λ (xs : List CaseItem). ItemsAlso c.args.self.now.counted ws (branches_of xs) c.loop-item.sets c.loop-item.kept.items u left)
    (sym (left_at c.args.items.now c.loop-item.item-index c.item-item.result c.loop-item-test.true c.item-item.is))
    (item_scanned c.args.self.now.counted ws (map tree c.item-item.result.labels.items) (body_of (map action c.item-item.result.body.items)) (branches_of (drop (c.loop-item.item-index + 1) c.args.items.now)) c.loop-item.sets c.also_way.new.sets u c.loop-item.kept.items c.in_ok-kept.kept.items left also h))

pub also_items-returns : goal.also_items-returns
also_items-returns t c =
    let ws = width_in c.args.self.now.widths.signals.now in
    c.loop-item.invariant c.loop-item.sets c.loop-item.kept.items
    (subst (λ (xs : List CaseItem). ItemsAlso c.args.self.now.counted ws (branches_of xs) c.loop-item.sets c.loop-item.kept.items c.loop-item.sets c.loop-item.kept.items)
    (sym (drop_all c.loop-item.item-index c.args.items.now c.loop-item-test.false)) (also_none c.args.self.now.counted ws c.loop-item.sets c.loop-item.kept.items))

pub branches-returns : goal.branches-returns
branches-returns t c =
    let ws = width_in c.args.self.now.widths.signals.now in
    IfOk-weaker c.also_way.result _ _
    (λ left. both_done c.args.self.now.counted ws (other_flow ws (other_of c.args.no.now)) (body_flow ws (body_of (map action c.args.yes.now))) c.args.sets.now c.other_way.new.sets c.also_way.new.sets c.in_ok-kept.kept.items c.deref.result.now left.items c.deref.ensures.value c.in_ok-kept.ensures)
    c.also_way.ensures

pub cases-returns-in_ok-kept-in-Some : goal.cases-returns-in_ok-kept-in-Some
cases-returns-in_ok-kept-in-Some t c =
    let ws = width_in c.args.self.now.widths.signals.now in
    IfOk-weaker c.also_items.result _ _
    (λ left. default_done c.args.self.now.counted ws c.args.complete c.args.fallback.now c.in-Some.body c.in-Some.is c.deref.result.now c.deref.ensures.value c.args.items.now c.args.sets.now c.way.new.sets c.also_items.new.sets c.in_ok-kept-in-Some.kept.items left.items c.in_ok-kept-in-Some.ensures)
    c.also_items.ensures

pub items_alone-returns-then-not-complete : goal.items_alone-returns-then-not-complete
items_alone-returns-then-not-complete t c =
    let ws = width_in c.args.self.now.widths.signals.now in
    IfOk-weaker c.also_items.result _ _
    (λ left. open_done c.args.self.now.counted ws c.args.complete c.if-not-complete.true c.args.items.now c.args.sets.now c.also_items.new.sets c.new.result.items left.items c.new.ensures.items)
    c.also_items.ensures

pub items_alone-returns-in_ok-kept-in-Some : goal.items_alone-returns-in_ok-kept-in-Some
items_alone-returns-in_ok-kept-in-Some t c =
    let ws = width_in c.args.self.now.widths.signals.now in
    IfOk-weaker c.also_items-in-Some.result _ _
    (λ left. closed_done c.args.self.now.counted ws c.args.complete c.if-not-complete.false c.args.items.now c.in-Some.first.now c.in-Some.others.now c.in-Some.ensures.cases.0 c.deref.result.now c.deref.ensures.value c.args.sets.now c.way.new.sets c.also_items-in-Some.new.sets c.in_ok-kept-in-Some.kept.items left.items c.in_ok-kept-in-Some.ensures)
    c.also_items-in-Some.ensures

pub statement-returns-in-Set : goal.statement-returns-in-Set
statement-returns-in-Set t c =
    let ws = width_in c.args.self.now.widths.signals.now in
    on_ok_weaker c.assign.result
    (set_done c.args.self.now.counted ws c.args.act.now c.in-Set.target c.in-Set.value c.in-Set.delayed c.in-Set.spot c.in-Set.is c.deref.result.now c.deref.ensures.value c.args.sets.now c.assign.new.sets c.args.log.now.items c.assign.new.log.items)
    c.assign.ensures

pub statement-returns-in_ok-kept-in-If : goal.statement-returns-in_ok-kept-in-If
statement-returns-in_ok-kept-in-If t c =
    let ws = width_in c.args.self.now.widths.signals.now in
    on_ok_weaker c.commit.result
    (if_done c.args.self.now.counted ws c.args.act.now c.in-If.test c.in-If.yes c.in-If.no c.in-If.spot c.in-If.is c.deref-in-If.result.now c.deref-in-If.ensures.value c.in_ok-kept-in-If.kept.items c.deref-in-If-2.result.now c.deref-in-If-2.ensures.value c.args.sets.now c.read.new.sets c.branches.new.sets c.commit.new.sets c.args.log.now.items c.commit.new.log.items c.in_ok-read-in-If.ensures c.in_ok-kept-in-If.ensures)
    c.commit.ensures

pub statement-returns-in_ok-kept-in-Case : goal.statement-returns-in_ok-kept-in-Case
statement-returns-in_ok-kept-in-Case t c =
    let ws = width_in c.args.self.now.widths.signals.now in
    on_ok_weaker c.commit-in-Case.result
    (case_done c.args.self.now.counted ws c.args.act.now c.in-Case.kind c.in-Case.full c.in-Case.parallel c.in-Case.selector c.in-Case.items c.in-Case.fallback c.in-Case.spot c.in-Case.is c.deref-in-Case.result.now c.deref-in-Case-2.result.now c.deref-in-Case-3.result.now c.deref-in-Case.ensures.value c.deref-in-Case-2.ensures.value c.deref-in-Case-3.ensures.value c.in_ok-complete-in-Case.complete c.in_ok-kept-in-Case.kept.items c.deref-in-Case-4.result.now c.deref-in-Case-4.ensures.value c.args.sets.now c.read_case.new.sets c.cases.new.sets c.commit-in-Case.new.sets c.args.log.now.items c.commit-in-Case.new.log.items c.in_ok-read_case-in-Case.ensures c.in_ok-complete-in-Case.ensures c.in_ok-kept-in-Case.ensures)
    c.commit-in-Case.ensures

pub statement-returns-in-Block : goal.statement-returns-in-Block
statement-returns-in-Block t c =
    let ws = width_in c.args.self.now.widths.signals.now in
    on_ok_weaker c.statements.result
    (block_done c.args.self.now.counted ws c.args.act.now c.in-Block.body c.in-Block.is c.deref-in-Block.result.now c.deref-in-Block.ensures.value c.args.sets.now c.statements.new.sets c.args.log.now.items c.statements.new.log.items)
    c.statements.ensures

pub statements-statement-requires : goal.statements-statement-requires
statements-statement-requires t c =
    let part = act_load c.args.acts.now c.loop-act.act-index c.act-item.result c.loop-act-test.true c.act-item.is in
    let is : 8 * load c.args.acts.now + 1 ≡ t = c.decreases in
    let less : 8 * statements (action c.act-item.result) < t = omega arith in
    (less, tt)

pub statement-branches-requires : goal.statement-branches-requires
statement-branches-requires t c =
    let part = if_load c.args.act.now c.in-If.test c.in-If.yes c.in-If.no c.in-If.spot c.in-If.is in
    let is : 8 * statements (action c.args.act.now) ≡ t = c.decreases in
    let same = ap load c.deref-in-If.ensures.value in
    let less : 8 * (load c.deref-in-If.result.now + other_load c.in-If.no) + 5 < t = omega arith in
    (less, tt)

pub statement-cases-requires : goal.statement-cases-requires
statement-cases-requires t c =
    let part = case_load c.args.act.now c.in-Case.kind c.in-Case.full c.in-Case.parallel c.in-Case.selector c.in-Case.items c.in-Case.fallback c.in-Case.spot c.in-Case.is in
    let is : 8 * statements (action c.args.act.now) ≡ t = c.decreases in
    let same = ap items_load c.deref-in-Case-3.ensures.value in
    let less : 8 * (items_load c.deref-in-Case-3.result.now + other_load c.in-Case.fallback) + 5 < t = omega arith in
    (less, tt)

pub statement-statements-requires : goal.statement-statements-requires
statement-statements-requires t c =
    let part = block_load c.args.act.now c.in-Block.body c.in-Block.is in
    let is : 8 * statements (action c.args.act.now) ≡ t = c.decreases in
    let same = ap load c.deref-in-Block.ensures.value in
    let less : 8 * load c.deref-in-Block.result.now + 1 < t = omega arith in
    (less, tt)

pub cases-way-requires : goal.cases-way-requires
cases-way-requires t c =
    let part : other_load c.args.fallback.now ≡ load c.in-Some.body.items = ap other_load c.in-Some.is in
    let is : 8 * (items_load c.args.items.now + other_load c.args.fallback.now) + 5 ≡ t = c.decreases in
    let same = ap load c.deref.ensures.value in
    let less : 8 * load c.deref.result.now + 2 < t = omega arith in
    (less, tt)

pub cases-also_items-requires : goal.cases-also_items-requires
cases-also_items-requires t c =
    let is : 8 * (items_load c.args.items.now + other_load c.args.fallback.now) + 5 ≡ t = c.decreases in
    let less : 8 * items_load c.args.items.now + 3 < t = omega arith in
    (less, tt)

pub cases-items_alone-requires : goal.cases-items_alone-requires
cases-items_alone-requires t c =
    let is : 8 * (items_load c.args.items.now + other_load c.args.fallback.now) + 5 ≡ t = c.decreases in
    let less : 8 * items_load c.args.items.now + 4 < t = omega arith in
    (less, tt)

pub other_way-way-requires : goal.other_way-way-requires
other_way-way-requires t c =
    let part : other_load c.args.no.now ≡ load c.in-Some.body.items = ap other_load c.in-Some.is in
    let is : 8 * other_load c.args.no.now + 4 ≡ t = c.decreases in
    let same = ap load c.deref.ensures.value in
    let less : 8 * load c.deref.result.now + 2 < t = omega arith in
    (less, tt)

pub items_alone-way-requires : goal.items_alone-way-requires
items_alone-way-requires t c =
    let part : items_load c.args.items.now ≡ load c.in-Some.first.now.body.items + items_load c.in-Some.others.now
    = ap items_load c.in-Some.ensures.cases.0 in
    let is : 8 * items_load c.args.items.now + 4 ≡ t = c.decreases in
    let same = ap load c.deref.ensures.value in
    let less : 8 * load c.deref.result.now + 2 < t = omega arith in
    (less, tt)

pub items_alone-also_items-requires : goal.items_alone-also_items-requires
items_alone-also_items-requires t c =
    let is : 8 * items_load c.args.items.now + 4 ≡ t = c.decreases in
    let less : 8 * items_load c.args.items.now + 3 < t = omega arith in
    (less, tt)

pub items_alone-also_items-requires-in-Some : goal.items_alone-also_items-requires-in-Some
items_alone-also_items-requires-in-Some t c =
    let part : items_load c.args.items.now ≡ load c.in-Some.first.now.body.items + items_load c.in-Some.others.now
    = ap items_load c.in-Some.ensures.cases.0 in
    let is : 8 * items_load c.args.items.now + 4 ≡ t = c.decreases in
    let less : 8 * items_load c.in-Some.others.now + 3 < t = omega arith in
    (less, tt)

pub also_items-also_way-requires : goal.also_items-also_way-requires
also_items-also_way-requires t c =
    let part = item_load c.args.items.now c.loop-item.item-index c.item-item.result c.loop-item-test.true c.item-item.is in
    let is : 8 * items_load c.args.items.now + 3 ≡ t = c.decreases in
    let same = ap load c.deref.ensures.value in
    let less : 8 * load c.deref.result.now + 2 < t = omega arith in
    (less, tt)

pub branches-other_way-requires : goal.branches-other_way-requires
branches-other_way-requires t c =
    let is : 8 * (load c.args.yes.now + other_load c.args.no.now) + 5 ≡ t = c.decreases in
    let less : 8 * other_load c.args.no.now + 4 < t = omega arith in
    (less, tt)

pub branches-also_way-requires : goal.branches-also_way-requires
branches-also_way-requires t c =
    let is : 8 * (load c.args.yes.now + other_load c.args.no.now) + 5 ≡ t = c.decreases in
    let less : 8 * load c.args.yes.now + 2 < t = omega arith in
    (less, tt)

pub way-statements-requires : goal.way-statements-requires
way-statements-requires t c =
    let is : 8 * load c.args.body.now + 2 ≡ t = c.decreases in
    let less : 8 * load c.args.body.now + 1 < t = omega arith in
    (less, tt)

pub also_way-statements-requires : goal.also_way-statements-requires
also_way-statements-requires t c =
    let is : 8 * load c.args.body.now + 2 ≡ t = c.decreases in
    let less : 8 * load c.args.body.now + 1 < t = omega arith in
    (less, tt)
