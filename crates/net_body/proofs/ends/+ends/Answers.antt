use Rattle.std.proofs.Common.{◌≡◌, ◌<◌, ◌+◌, ◌*◌, ◌∙◌, List, length, map, drop, Option, ap, sym, subst, arith}
use Rattle.std.specs.Prelude.{Vec}
use Rattle.std.specs.declared.alloc.Global.{Global}
use Rattle.std.specs.List.{All}
use Rattle.std.proofs.lemmas.List.{at_drop_all}
use Rattle.rtl_flat.specs.declared.act.Act.{Act}
use Rattle.rtl_flat.specs.declared.act.CaseItem.{CaseItem}
use Rattle.rtl_flat.specs.declared.act.TargetPart.{TargetPart}
use Rattle.rtl_flat.specs.Expression.{tree}
use Rattle.rtl_flat.specs.Process.{Action, action, body_of, piece}
use Rattle.rtl_flat.specs.Value.{store}
use Rattle.rtl_flat.specs.WellFormed.{IsAction, IsBody, statements}
use Rattle.rtl_scan.specs.Bodies.{branches_of, other_of}
use Rattle.rtl_scan.specs.Loads.{load, other_load, items_load}
use Rattle.rtl_scan.proofs.Labels.{left_at}
use Rattle.rtl_scan.proofs.Weights.{if_load, case_load, block_load, act_load, item_load}
use Rattle.net_body.specs.Bodies.{AreBodies}
use Rattle.net_body.specs.Ends.{Ending, ending, ending_after}
use Rattle.net_body.specs.Named.{action_signals, body_signals, branch_signals, other_signals, target_signals}
use Rattle.net_body.proofs.Choosing.{are_bodies, block_action, case_action, if_action}
use Rattle.net_body.proofs.Ended.{ended_more}
use Rattle.net_body.proofs.Targets.{parts_below}
use Rattle.net_body.proofs.ends.+ends.Goals as goal

-- ---- one statement

pub end_act-end_parts-requires-clause-there : goal.end_act-end_parts-requires-clause-there
end_act-end_parts-requires-clause-there t c =
    let signals = c.args.signals.now in
    let lawful = subst (λ (a : Act). IsAction signals (action a)) c.in-Set.is c.requires.act in
    subst (λ (ps : List TargetPart). All (λ part. part.signal.0 < length signals) ps) (sym c.deref.ensures.value) (parts_below signals c.in-Set.target.parts.items lawful.parts)

pub end_act-returns-in-Set-clause-ends : goal.end_act-returns-in-Set-clause-ends
end_act-returns-in-Set-clause-ends t c =
    let e : Ending = ending c.args.numbers.now c.args.marks.now c.args.after.now in
    let before = store c.args.before.now in
    let aside = c.args.aside in
    c.end_parts.ensures.ends
    ∙ ap (λ (ps : List TargetPart). ending_after aside before e (target_signals (map piece ps))) c.deref.ensures.value
    ∙ ap (λ (a : Act). ending_after aside before e (action_signals (action a))) (sym c.in-Set.is)

pub end_act-end_other-requires : goal.end_act-end_other-requires
end_act-end_other-requires t c =
    let signals = c.args.signals.now in
    let is = if_action c.args.act.now c.in-If.test c.in-If.yes c.in-If.no c.in-If.spot c.in-If.is in
    let lawful = subst (IsAction signals) is c.requires.act in
    let part = if_load c.args.act.now c.in-If.test c.in-If.yes c.in-If.no c.in-If.spot c.in-If.is in
    let measure : 4 * statements (action c.args.act.now) ≡ t = c.decreases in
    let less : 4 * other_load c.in-If.no + 2 < t = omega (arith, part, measure) in
    (less, (lawful.2, (c.requires.kept, c.requires.beside)))

pub end_act-end_all-requires : goal.end_act-end_all-requires
end_act-end_all-requires t c =
    let signals = c.args.signals.now in
    let is = if_action c.args.act.now c.in-If.test c.in-If.yes c.in-If.no c.in-If.spot c.in-If.is in
    let lawful = subst (IsAction signals) is c.requires.act in
    let value = c.deref-in-If.ensures.value in
    let part = if_load c.args.act.now c.in-If.test c.in-If.yes c.in-If.no c.in-If.spot c.in-If.is in
    let measure : 4 * statements (action c.args.act.now) ≡ t = c.decreases in
    let same = ap load value in
    let less : 4 * load c.deref-in-If.result.now + 1 < t = omega (arith, part, measure, same) in
    (less, (subst (λ (xs : List Act). IsBody signals (body_of (map action xs))) (sym value) lawful.1, (c.end_other.ensures.kept, c.end_other.ensures.beside)))

pub end_act-returns-in-If-clause-ends : goal.end_act-returns-in-If-clause-ends
end_act-returns-in-If-clause-ends t c =
    let e : Ending = ending c.args.numbers.now c.args.marks.now c.args.after.now in
    let e' : Ending = ending c.end_other.new.numbers c.end_other.new.marks c.end_other.new.after in
    let before = store c.args.before.now in
    let aside = c.args.aside in
    let is = if_action c.args.act.now c.in-If.test c.in-If.yes c.in-If.no c.in-If.spot c.in-If.is in
    c.end_all.ensures.ends
    ∙ ap (λ (xs : List Act). ending_after aside before e' (body_signals (body_of (map action xs)))) c.deref-in-If.ensures.value
    ∙ ended_more aside before e e' (other_signals (other_of c.in-If.no)) (body_signals (body_of (map action c.in-If.yes.items))) c.end_other.ensures.ends
    ∙ ap (λ (a : Action). ending_after aside before e (action_signals a)) (sym is)

pub end_act-end_other-requires-in-Case : goal.end_act-end_other-requires-in-Case
end_act-end_other-requires-in-Case t c =
    let signals = c.args.signals.now in
    let is = case_action c.args.act.now c.in-Case.kind c.in-Case.full c.in-Case.parallel c.in-Case.selector c.in-Case.items c.in-Case.fallback c.in-Case.spot c.in-Case.is in
    let lawful = subst (IsAction signals) is c.requires.act in
    let part = case_load c.args.act.now c.in-Case.kind c.in-Case.full c.in-Case.parallel c.in-Case.selector c.in-Case.items c.in-Case.fallback c.in-Case.spot c.in-Case.is in
    let measure : 4 * statements (action c.args.act.now) ≡ t = c.decreases in
    let less : 4 * other_load c.in-Case.fallback + 2 < t = omega (arith, part, measure) in
    (less, (lawful.2, (c.requires.kept, c.requires.beside)))

pub end_act-end_items-requires : goal.end_act-end_items-requires
end_act-end_items-requires t c =
    let signals = c.args.signals.now in
    let is = case_action c.args.act.now c.in-Case.kind c.in-Case.full c.in-Case.parallel c.in-Case.selector c.in-Case.items c.in-Case.fallback c.in-Case.spot c.in-Case.is in
    let lawful = subst (IsAction signals) is c.requires.act in
    let value = c.deref-in-Case.ensures.value in
    let part = case_load c.args.act.now c.in-Case.kind c.in-Case.full c.in-Case.parallel c.in-Case.selector c.in-Case.items c.in-Case.fallback c.in-Case.spot c.in-Case.is in
    let measure : 4 * statements (action c.args.act.now) ≡ t = c.decreases in
    let same = ap items_load value in
    let less : 4 * items_load c.deref-in-Case.result.now + 2 < t = omega (arith, part, measure, same) in
    (less, (subst (λ (xs : List CaseItem). AreBodies signals (branches_of xs)) (sym value) (are_bodies signals (tree c.in-Case.selector) (branches_of c.in-Case.items.items) lawful.1), (c.end_other-in-Case.ensures.kept, c.end_other-in-Case.ensures.beside)))

pub end_act-returns-in-Case-clause-ends : goal.end_act-returns-in-Case-clause-ends
end_act-returns-in-Case-clause-ends t c =
    let e : Ending = ending c.args.numbers.now c.args.marks.now c.args.after.now in
    let e' : Ending = ending c.end_other-in-Case.new.numbers c.end_other-in-Case.new.marks c.end_other-in-Case.new.after in
    let before = store c.args.before.now in
    let aside = c.args.aside in
    let is = case_action c.args.act.now c.in-Case.kind c.in-Case.full c.in-Case.parallel c.in-Case.selector c.in-Case.items c.in-Case.fallback c.in-Case.spot c.in-Case.is in
    c.end_items.ensures.ends
    ∙ ap (λ (xs : List CaseItem). ending_after aside before e' (branch_signals (branches_of xs))) c.deref-in-Case.ensures.value
    ∙ ended_more aside before e e' (other_signals (other_of c.in-Case.fallback)) (branch_signals (branches_of c.in-Case.items.items)) c.end_other-in-Case.ensures.ends
    ∙ ap (λ (a : Action). ending_after aside before e (action_signals a)) (sym is)

pub end_act-end_all-requires-in-Block : goal.end_act-end_all-requires-in-Block
end_act-end_all-requires-in-Block t c =
    let signals = c.args.signals.now in
    let is = block_action c.args.act.now c.in-Block.body c.in-Block.is in
    let lawful = subst (IsAction signals) is c.requires.act in
    let value = c.deref-in-Block.ensures.value in
    let part = block_load c.args.act.now c.in-Block.body c.in-Block.is in
    let measure : 4 * statements (action c.args.act.now) ≡ t = c.decreases in
    let same = ap load value in
    let less : 4 * load c.deref-in-Block.result.now + 1 < t = omega (arith, part, measure, same) in
    (less, (subst (λ (xs : List Act). IsBody signals (body_of (map action xs))) (sym value) lawful, (c.requires.kept, c.requires.beside)))

pub end_act-returns-in-Block-clause-ends : goal.end_act-returns-in-Block-clause-ends
end_act-returns-in-Block-clause-ends t c =
    let e : Ending = ending c.args.numbers.now c.args.marks.now c.args.after.now in
    let before = store c.args.before.now in
    let aside = c.args.aside in
    let is = block_action c.args.act.now c.in-Block.body c.in-Block.is in
    c.end_all-in-Block.ensures.ends
    ∙ ap (λ (xs : List Act). ending_after aside before e (body_signals (body_of (map action xs)))) c.deref-in-Block.ensures.value
    ∙ ap (λ (a : Action). ending_after aside before e (action_signals a)) (sym is)

-- ---- statements in order

pub end_all-end_act-requires : goal.end_all-end_act-requires
end_all-end_act-requires t c =
    let signals = c.args.signals.now in
    let inv = c.loop-act.invariant in
    let left = left_at c.args.acts.now c.loop-act.act-index c.act-item.result c.loop-act-test.true c.act-item.is in
    let lawful = subst (λ (xs : List Act). IsBody signals (body_of (map action xs))) left inv.2 in
    let part = act_load c.args.acts.now c.loop-act.act-index c.act-item.result c.loop-act-test.true c.act-item.is in
    let measure : 4 * load c.args.acts.now + 1 ≡ t = c.decreases in
    let less : 4 * statements (action c.act-item.result) < t = omega (arith, part, measure) in
    (less, (lawful.0, (inv.0, inv.1)))

pub end_all-loop-act-preserved : goal.end_all-loop-act-preserved
end_all-loop-act-preserved t c =
    let signals = c.args.signals.now in
    let inv = c.loop-act.invariant in
    let before = store c.args.before.now in
    let aside = c.args.aside in
    let others = body_of (map action (drop (c.loop-act.act-index + 1) c.args.acts.now)) in
    let left = left_at c.args.acts.now c.loop-act.act-index c.act-item.result c.loop-act-test.true c.act-item.is in
    let lawful = subst (λ (xs : List Act). IsBody signals (body_of (map action xs))) left inv.2 in
    let e : Ending = ending c.loop-act.numbers c.loop-act.marks c.loop-act.after in
    let e' : Ending = ending c.end_act.new.numbers c.end_act.new.marks c.end_act.new.after in (
      c.end_act.ensures.kept,
      c.end_act.ensures.beside,
      lawful.1,
      ended_more aside before e e' (action_signals (action c.act-item.result)) (body_signals others) c.end_act.ensures.ends
          ∙ ap (λ (xs : List Act). ending_after aside before e (body_signals (body_of (map action xs)))) (sym left)
          ∙ inv.3,
    )

pub end_all-returns-clause-ends : goal.end_all-returns-clause-ends
end_all-returns-clause-ends t c =
    let e : Ending = ending c.loop-act.numbers c.loop-act.marks c.loop-act.after in
    sym (at_drop_all (λ (xs : List Act). ending_after c.args.aside (store c.args.before.now) e (body_signals (body_of (map action xs)))) c.args.acts.now c.loop-act.act-index c.loop-act-test.false)
    ∙ c.loop-act.invariant.3

-- ---- a body that may be left out

pub end_other-returns-in-None-clause-ends : goal.end_other-returns-in-None-clause-ends
end_other-returns-in-None-clause-ends t c =
    let e : Ending = ending c.args.numbers.now c.args.marks.now c.args.after.now in
    sym (ap (λ (o : Option (Vec Act Global)). ending_after c.args.aside (store c.args.before.now) e (other_signals (other_of o))) c.in-None.is)

pub end_other-returns-in-Some-clause-ends : goal.end_other-returns-in-Some-clause-ends
end_other-returns-in-Some-clause-ends t c =
    let e : Ending = ending c.args.numbers.now c.args.marks.now c.args.after.now in
    let before = store c.args.before.now in
    let aside = c.args.aside in
    c.end_all.ensures.ends
    ∙ ap (λ (xs : List Act). ending_after aside before e (body_signals (body_of (map action xs)))) c.deref.ensures.value
    ∙ sym (ap (λ (o : Option (Vec Act Global)). ending_after aside before e (other_signals (other_of o))) c.in-Some.is)

-- ---- items of a case

pub end_items-end_all-requires : goal.end_items-end_all-requires
end_items-end_all-requires t c =
    let signals = c.args.signals.now in
    let inv = c.loop-item.invariant in
    let left = left_at c.args.items.now c.loop-item.item-index c.item-item.result c.loop-item-test.true c.item-item.is in
    let lawful = subst (λ (xs : List CaseItem). AreBodies signals (branches_of xs)) left inv.2 in
    let part = item_load c.args.items.now c.loop-item.item-index c.item-item.result c.loop-item-test.true c.item-item.is in
    let value = c.deref.ensures.value in
    let same = ap load value in
    let measure : 4 * items_load c.args.items.now + 2 ≡ t = c.decreases in
    let less : 4 * load c.deref.result.now + 1 < t = omega (arith, part, same, measure) in
    (less, (subst (λ (xs : List Act). IsBody signals (body_of (map action xs))) (sym value) lawful.0, (inv.0, inv.1)))

pub end_items-loop-item-preserved : goal.end_items-loop-item-preserved
end_items-loop-item-preserved t c =
    let signals = c.args.signals.now in
    let inv = c.loop-item.invariant in
    let before = store c.args.before.now in
    let aside = c.args.aside in
    let item = c.item-item.result in
    let others = branches_of (drop (c.loop-item.item-index + 1) c.args.items.now) in
    let left = left_at c.args.items.now c.loop-item.item-index item c.loop-item-test.true c.item-item.is in
    let lawful = subst (λ (xs : List CaseItem). AreBodies signals (branches_of xs)) left inv.2 in
    let e : Ending = ending c.loop-item.numbers c.loop-item.marks c.loop-item.after in
    let e' : Ending = ending c.end_all.new.numbers c.end_all.new.marks c.end_all.new.after in (
      c.end_all.ensures.kept,
      c.end_all.ensures.beside,
      lawful.1,
      ended_more aside before e e' (body_signals (body_of (map action item.body.items))) (branch_signals others)
          (c.end_all.ensures.ends ∙ ap (λ (xs : List Act). ending_after aside before e (body_signals (body_of (map action xs)))) c.deref.ensures.value)
          ∙ ap (λ (xs : List CaseItem). ending_after aside before e (branch_signals (branches_of xs))) (sym left)
          ∙ inv.3,
    )

pub end_items-returns-clause-ends : goal.end_items-returns-clause-ends
end_items-returns-clause-ends t c =
    let e : Ending = ending c.loop-item.numbers c.loop-item.marks c.loop-item.after in
    sym (at_drop_all (λ (xs : List CaseItem). ending_after c.args.aside (store c.args.before.now) e (branch_signals (branches_of xs))) c.args.items.now c.loop-item.item-index c.loop-item-test.false)
    ∙ c.loop-item.invariant.3
