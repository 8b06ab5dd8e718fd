use Rattle.std.proofs.Common.{◌≡◌, ◌<◌, ◌+◌, ◌*◌, ◌∙◌, ap, sym, arith, drop, map, List}
use Rattle.std.proofs.lemmas.List.{drop_all}
use Rattle.rtl_flat.specs.declared.act.Act.{Act}
use Rattle.rtl_flat.specs.declared.act.CaseItem.{CaseItem}
use Rattle.rtl_flat.specs.Expression.{tree}
use Rattle.rtl_flat.specs.Process.{action, body_of}
use Rattle.rtl_flat.specs.WellFormed.{statements}
use Rattle.rtl_flat.proofs.ActViews.{block_is}
use Rattle.rtl_flat.specs.Flats.{flat}
use Rattle.check_parts.specs.rtl_scan.Bodies.{branches_of, other_of}
use Rattle.check_parts.specs.rtl_scan.Loads.{load, other_load, items_load}
use Rattle.check_parts.proofs.rtl_scan_proofs.Bodies.{case_is, choice_is}
use Rattle.check_parts.proofs.rtl_scan_proofs.Labels.{left_at}
use Rattle.check_parts.proofs.rtl_scan_proofs.Weights.{if_load, case_load, block_load, act_load, item_load}
use Rattle.check_case.specs.Cases.{first_in}
use Rattle.check_case.specs.Least.{first_of_all, first_of_items, first_of_other, lesser}
use Rattle.check_case.proofs.Firsts.{all_next, case_first, if_first, items_next, lesser-none, lesser_assoc, pieces_none}
use Rattle.check_case.proofs.first.+least.Goals as goal

pub first_in-first_of_other-requires : goal.first_in-first_of_other-requires
first_in-first_of_other-requires t c =
    let part = if_load c.args.one.now c.in-If.test c.in-If.yes c.in-If.no c.in-If.spot c.in-If.is in
    let is : 4 * statements (action c.args.one.now) ≡ t = c.decreases in
    let less : 4 * other_load c.in-If.no + 2 < t = omega arith in
    (less, tt)

pub first_in-first_of_all-requires : goal.first_in-first_of_all-requires
first_in-first_of_all-requires t c =
    let part = if_load c.args.one.now c.in-If.test c.in-If.yes c.in-If.no c.in-If.spot c.in-If.is in
    let is : 4 * statements (action c.args.one.now) ≡ t = c.decreases in
    let same = ap load c.deref-in-If.ensures.value in
    let less : 4 * load c.deref-in-If.result.now + 1 < t = omega arith in
    (less, tt)

pub first_in-first_of_other-requires-in-Case : goal.first_in-first_of_other-requires-in-Case
first_in-first_of_other-requires-in-Case t c =
    let part = case_load c.args.one.now c.in-Case.kind c.in-Case.full c.in-Case.parallel c.in-Case.selector c.in-Case.items c.in-Case.fallback c.in-Case.spot c.in-Case.is in
    let is : 4 * statements (action c.args.one.now) ≡ t = c.decreases in
    let less : 4 * other_load c.in-Case.fallback + 2 < t = omega arith in
    (less, tt)

pub first_in-first_of_items-requires : goal.first_in-first_of_items-requires
first_in-first_of_items-requires t c =
    let part = case_load c.args.one.now c.in-Case.kind c.in-Case.full c.in-Case.parallel c.in-Case.selector c.in-Case.items c.in-Case.fallback c.in-Case.spot c.in-Case.is in
    let is : 4 * statements (action c.args.one.now) ≡ t = c.decreases in
    let same = ap items_load c.deref-in-Case.ensures.value in
    let less : 4 * items_load c.deref-in-Case.result.now + 2 < t = omega arith in
    (less, tt)

pub first_in-first_of_all-requires-in-Block : goal.first_in-first_of_all-requires-in-Block
first_in-first_of_all-requires-in-Block t c =
    let part = block_load c.args.one.now c.in-Block.body c.in-Block.is in
    let is : 4 * statements (action c.args.one.now) ≡ t = c.decreases in
    let same = ap load c.deref-in-Block.ensures.value in
    let less : 4 * load c.deref-in-Block.result.now + 1 < t = omega arith in
    (less, tt)

pub first_in-returns-in-If : goal.first_in-returns-in-If
first_in-returns-in-If t c =
    let d = flat c.args.design.now in
    let one = c.in-If in
    c.lesser.ensures ∙ ap (λ x. lesser x c.first_of_all.result) c.first_of_other.ensures
    ∙ ap (lesser (first_of_other d (other_of one.no))) (c.first_of_all.ensures ∙ ap (λ (acts : List Act). first_of_all d (body_of (map action acts))) c.deref-in-If.ensures.value)
    ∙ sym (ap (λ (a : Act). first_in d (action a)) one.is ∙ ap (first_in d) (choice_is one.test one.yes one.no one.spot)
    ∙ if_first d (tree one.test) (body_of (map action one.yes.items)) (other_of one.no) one.spot)

pub first_in-returns-in-Case : goal.first_in-returns-in-Case
first_in-returns-in-Case t c =
    let d = flat c.args.design.now in
    let one = c.in-Case in
    c.lesser-in-Case.ensures ∙ ap (λ x. lesser x c.first_of_items.result) c.first_of_other-in-Case.ensures
    ∙ ap (lesser (first_of_other d (other_of one.fallback))) (c.first_of_items.ensures ∙ ap (λ (items : List CaseItem). first_of_items d (branches_of items)) c.deref-in-Case.ensures.value)
    ∙ sym (ap (λ (a : Act). first_in d (action a)) one.is ∙ ap (first_in d) (case_is one.kind one.full one.parallel one.selector one.items one.fallback one.spot)
    ∙ case_first d one.kind one.full one.parallel (tree one.selector) (branches_of one.items.items) (other_of one.fallback) one.spot)

pub first_in-returns-in-Block : goal.first_in-returns-in-Block
first_in-returns-in-Block t c =
    let d = flat c.args.design.now in
    c.first_of_all-in-Block.ensures ∙ ap (λ (acts : List Act). first_of_all d (body_of (map action acts))) c.deref-in-Block.ensures.value
    ∙ sym (ap (λ (a : Act). first_in d (action a)) c.in-Block.is ∙ ap (first_in d) (block_is c.in-Block.body))

pub first_of_all-first_in-requires : goal.first_of_all-first_in-requires
first_of_all-first_in-requires t c =
    let part = act_load c.args.body.now c.loop-one.one-index c.one-item.result c.loop-one-test.true c.one-item.is in
    let is : 4 * load c.args.body.now + 1 ≡ t = c.decreases in
    let less : 4 * statements (action c.one-item.result) < t = omega arith in
    (less, tt)

pub first_of_all-loop-one-preserved : goal.first_of_all-loop-one-preserved
first_of_all-loop-one-preserved t c =
    let d = flat c.args.design.now in
    let i = c.loop-one.one-index in
    let one = c.one-item.result in
    let first = c.loop-one.first in
    let rest = body_of (map action (drop (i + 1) c.args.body.now)) in
    ap (λ x. lesser x (first_of_all d rest)) (c.lesser-first.ensures ∙ ap (lesser first) c.first_in.ensures)
    ∙ lesser_assoc first (first_in d (action one)) (first_of_all d rest)
    ∙ ap (lesser first) (sym (all_next d (action one) rest))
    ∙ ap (λ (xs : List Act). lesser first (first_of_all d (body_of (map action xs)))) (sym (left_at c.args.body.now i one c.loop-one-test.true c.one-item.is))
    ∙ c.loop-one.invariant

pub first_of_all-returns : goal.first_of_all-returns
first_of_all-returns t c =
    let d = flat c.args.design.now in
    let first = c.loop-one.first in
    sym (lesser-none first) ∙ ap (lesser first) (sym (pieces_none d))
    ∙ ap (λ (xs : List Act). lesser first (first_of_all d (body_of (map action xs)))) (sym (drop_all c.loop-one.one-index c.args.body.now c.loop-one-test.false))
    ∙ c.loop-one.invariant

pub first_of_items-first_of_all-requires : goal.first_of_items-first_of_all-requires
first_of_items-first_of_all-requires t c =
    let part = item_load c.args.items.now c.loop-item.item-index c.item-item.result c.loop-item-test.true c.item-item.is in
    let is : 4 * items_load c.args.items.now + 2 ≡ t = c.decreases in
    let same = ap load c.deref.ensures.value in
    let less : 4 * load c.deref.result.now + 1 < t = omega arith in
    (less, tt)

pub first_of_items-loop-item-preserved : goal.first_of_items-loop-item-preserved
first_of_items-loop-item-preserved t c =
    let d = flat c.args.design.now in
    let i = c.loop-item.item-index in
    let one = c.item-item.result in
    let first = c.loop-item.first in
    let body = body_of (map action one.body.items) in
    let rest = branches_of (drop (i + 1) c.args.items.now) in
    ap (λ x. lesser x (first_of_items d rest)) (c.lesser-first.ensures ∙ ap (lesser first) (c.first_of_all.ensures ∙ ap (λ (acts : List Act). first_of_all d (body_of (map action acts))) c.deref.ensures.value))
    ∙ lesser_assoc first (first_of_all d body) (first_of_items d rest)
    ∙ ap (lesser first) (sym (items_next d (map tree one.labels.items) body rest))
    ∙ ap (λ (xs : List CaseItem). lesser first (first_of_items d (branches_of xs))) (sym (left_at c.args.items.now i one c.loop-item-test.true c.item-item.is))
    ∙ c.loop-item.invariant

pub first_of_items-returns : goal.first_of_items-returns
first_of_items-returns t c =
    let d = flat c.args.design.now in
    let first = c.loop-item.first in
    sym (lesser-none first) ∙ ap (lesser first) (sym (pieces_none d))
    ∙ ap (λ (xs : List CaseItem). lesser first (first_of_items d (branches_of xs))) (sym (drop_all c.loop-item.item-index c.args.items.now c.loop-item-test.false))
    ∙ c.loop-item.invariant

pub first_of_other-returns-in-None : goal.first_of_other-returns-in-None
first_of_other-returns-in-None t c =
    let d = flat c.args.design.now in
    sym (ap (λ o. first_of_other d (other_of o)) c.in-None.is ∙ pieces_none d)
