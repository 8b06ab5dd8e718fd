use Rattle.std.proofs.Common.{◌≡◌, ◌<◌, ◌≤◌, ◌+◌, ◌-◌, ◌*◌, ◌∙◌, ◌++◌, ◌∷◌, ◌&&◌, Bool, ℕ, get_or, not, true, false, cond, List, [], length, map, drop, take, Option, None, Some, ap, sym, subst, arith}
use Rattle.std.specs.Prelude.{Vec, if◌then◌else◌, max}
use Rattle.std.specs.declared.alloc.Global.{Global}
use Rattle.std.specs.List.{All}
use Rattle.std.specs.Option.{option_map}
use Rattle.std.proofs.lemmas.List.{at_drop_all, length-drop, length-take}
use Rattle.net_body.proofs.Sides.{arms_more, body_at, level_at, stands_same}
use Rattle.rtl_flat.specs.declared.expr.SizedExpr.{SizedExpr}
use Rattle.rtl_flat.specs.Signs.{IsExpression}
use Rattle.rtl_bits.specs.declared.Bit.{Bit}
use Rattle.rtl_bits.specs.Bit.{is_one}
use Rattle.rtl_bits.specs.Bits.{truth_bit}
use Rattle.rtl_flat.specs.declared.act.Act.{Act}
use Rattle.rtl_flat.specs.declared.act.CaseItem.{CaseItem}
use Rattle.rtl_flat.specs.Expression.{tree}
use Rattle.rtl_flat.specs.declared.act.TargetPart.{TargetPart}
use Rattle.rtl_flat.specs.Process.{Action, Actions, Case, action, body_of, piece}
use Rattle.rtl_flat.specs.Signs.{width_in}
use Rattle.rtl_flat.specs.Value.{store}
use Rattle.rtl_flat.specs.WellFormed.{AreBranches, IsAction, IsBody, IsOtherwise, statements, other_statements}
use Rattle.rtl_scan.specs.Bodies.{branches_of, other_of}
use Rattle.rtl_scan.specs.Loads.{load, other_load, items_load}
use Rattle.rtl_scan.proofs.Labels.{left_at}
use Rattle.rtl_scan.proofs.Weights.{if_load, case_load, block_load, act_load, item_load}
use Rattle.rtl_bits.specs.declared.Bit.TheVariants.{X}
use Rattle.rtl_bits.specs.Inside.{length-tabulate}
use Rattle.rtl_flat.specs.Value.{widths}
use Rattle.net_model.specs.Block.{Maps, act, act_arms, act_other, acts, arm_bits, arms_late, arms_write, digit_writes, fresh, joined_arms, some_meets, write_each}
use Rattle.event_model.specs.Writes.{Values}
use Rattle.net_model.specs.Numbers.{digits}
use Rattle.net_body.specs.declared.arms.Aside.{Aside}
use Rattle.net_body.specs.Asides.{AreAside, HaveSums, IsBounded}
use Rattle.net_body.proofs.Ending.{kept_front}
use Rattle.net_body.proofs.Siding.{bounded_more, bounded_none}
use Rattle.net_body.specs.Bodies.{chosen_body, none_runs}
use Rattle.net_body.specs.Levels.{branch_levels, levels, levels_of, other_levels}
use Rattle.net_body.specs.Marks.{maps}
use Rattle.net_body.proofs.Choosing.{are_bodies, are_matched, as_other, block_action, case_action, case_arms, case_first, case_none, chosen_lawful, chosen_levels, chosen_statements, if_action, less_room, matched_at, other_runs, taken_runs}
use Rattle.net_body.proofs.statements.+acts.Goals as goal
use Rattle.net_body.proofs.statements.+acts.Goals.{run_arms-else-item_meets, run_arms-then-item_meets}

-- ---- one statement

pub run-run_all-requires : goal.run-run_all-requires
run-run_all-requires t c =
    let signals = c.args.design.now.signals.items in
    let is = if_action c.args.statement.now c.in-If.test c.in-If.yes c.in-If.no c.in-If.spot c.in-If.is in
    let lawful = subst (IsAction signals) is c.requires.statement in
    let value = c.deref-then-holds.ensures.value in
    let part = if_load c.args.statement.now c.in-If.test c.in-If.yes c.in-If.no c.in-If.spot c.in-If.is in
    let measure : 4 * statements (action c.args.statement.now) ≡ t = c.decreases in
    let same = ap load value in
    let less : 4 * load c.deref-then-holds.result.now + 1 < t = omega (arith, part, measure, same) in
    let whole = ap levels is in
    let here = ap (λ (xs : List Act). levels_of (body_of (map action xs))) value in
    let fewer : levels_of (body_of (map action c.deref-then-holds.result.now)) ≤ levels (action c.args.statement.now) = omega (arith, whole, here) in
    (less, (subst (λ (xs : List Act). IsBody signals (body_of (map action xs))) (sym value) lawful.1, (c.requires.kept, (c.requires.entries, less_room _ _ (length signals) (length c.args.room.now) fewer c.requires.room))))

pub run-run_other-requires : goal.run-run_other-requires
run-run_other-requires t c =
    let signals = c.args.design.now.signals.items in
    let is = if_action c.args.statement.now c.in-If.test c.in-If.yes c.in-If.no c.in-If.spot c.in-If.is in
    let lawful = subst (IsAction signals) is c.requires.statement in
    let part = if_load c.args.statement.now c.in-If.test c.in-If.yes c.in-If.no c.in-If.spot c.in-If.is in
    let measure : 4 * statements (action c.args.statement.now) ≡ t = c.decreases in
    let less : 4 * other_load c.in-If.no + 2 < t = omega (arith, part, measure) in
    let whole = ap levels is in
    let fewer : other_levels (other_of c.in-If.no) ≤ levels (action c.args.statement.now) = omega (arith, whole) in
    (less, (lawful.2, (c.requires.kept, (c.requires.entries, less_room _ _ (length signals) (length c.args.room.now) fewer c.requires.room))))

pub run-run_case-requires : goal.run-run_case-requires
run-run_case-requires t c =
    let signals = c.args.design.now.signals.items in
    let is = case_action c.args.statement.now c.in-Case.kind c.in-Case.full c.in-Case.parallel c.in-Case.selector c.in-Case.items c.in-Case.fallback c.in-Case.spot c.in-Case.is in
    let lawful = subst (IsAction signals) is c.requires.statement in
    let value = c.deref-in-Case.ensures.value in
    let part = case_load c.args.statement.now c.in-Case.kind c.in-Case.full c.in-Case.parallel c.in-Case.selector c.in-Case.items c.in-Case.fallback c.in-Case.spot c.in-Case.is in
    let measure : 4 * statements (action c.args.statement.now) ≡ t = c.decreases in
    let same = ap items_load value in
    let less : 4 * (items_load c.deref-in-Case.result.now + other_load c.in-Case.fallback) + 3 < t = omega (arith, part, measure, same) in
    let whole = ap levels is in
    let here = ap (λ (xs : List CaseItem). max (cond c.in-Case.parallel 1 0 + branch_levels (branches_of xs)) (other_levels (other_of c.in-Case.fallback))) value in
    let fewer : max (cond c.in-Case.parallel 1 0 + branch_levels (branches_of c.deref-in-Case.result.now)) (other_levels (other_of c.in-Case.fallback)) ≤ levels (action c.args.statement.now) = omega (arith, whole, here) in
    (less, (lawful.0, (subst (λ (xs : List CaseItem). AreBranches signals (tree c.in-Case.selector) (branches_of xs)) (sym value) lawful.1, (lawful.2, (c.requires.kept, (c.requires.entries, less_room _ _ (length signals) (length c.args.room.now) fewer c.requires.room))))))

pub run-run_all-requires-in-Block : goal.run-run_all-requires-in-Block
run-run_all-requires-in-Block t c =
    let signals = c.args.design.now.signals.items in
    let is = block_action c.args.statement.now c.in-Block.body c.in-Block.is in
    let lawful = subst (IsAction signals) is c.requires.statement in
    let value = c.deref-in-Block.ensures.value in
    let part = block_load c.args.statement.now c.in-Block.body c.in-Block.is in
    let measure : 4 * statements (action c.args.statement.now) ≡ t = c.decreases in
    let same = ap load value in
    let less : 4 * load c.deref-in-Block.result.now + 1 < t = omega (arith, part, measure, same) in
    let whole = ap levels is in
    let here = ap (λ (xs : List Act). levels_of (body_of (map action xs))) value in
    let fewer : levels_of (body_of (map action c.deref-in-Block.result.now)) ≤ levels (action c.args.statement.now) = omega (arith, whole, here) in
    (less, (subst (λ (xs : List Act). IsBody signals (body_of (map action xs))) (sym value) lawful, (c.requires.kept, (c.requires.entries, less_room _ _ (length signals) (length c.args.room.now) fewer c.requires.room))))

pub run-returns-then-holds-clause-maps : goal.run-returns-then-holds-clause-maps
run-returns-then-holds-clause-maps t c =
    let m = maps c.args.numbers.now c.args.marks.now in
    let ws = width_in c.args.design.now.signals.items in
    let is = if_action c.args.statement.now c.in-If.test c.in-If.yes c.in-If.no c.in-If.spot c.in-If.is in
    let test : true ≡ is_one (truth_bit (digits c.args.fill m.now (tree c.in-If.test))) = sym c.if-holds.true ∙ c.holds.ensures in
    c.run_all.ensures.maps
    ∙ ap (λ (xs : List Act). acts ws c.args.fill m (body_of (map action xs))) c.deref-then-holds.ensures.value
    ∙ taken_runs ws c.args.fill m (action c.args.statement.now) (tree c.in-If.test) (body_of (map action c.in-If.yes.items)) (other_of c.in-If.no) c.in-If.spot is test

pub run-returns-else-holds-clause-maps : goal.run-returns-else-holds-clause-maps
run-returns-else-holds-clause-maps t c =
    let m = maps c.args.numbers.now c.args.marks.now in
    let ws = width_in c.args.design.now.signals.items in
    let is = if_action c.args.statement.now c.in-If.test c.in-If.yes c.in-If.no c.in-If.spot c.in-If.is in
    let test : false ≡ is_one (truth_bit (digits c.args.fill m.now (tree c.in-If.test))) = sym c.if-holds.false ∙ c.holds.ensures in
    c.run_other.ensures.maps
    ∙ other_runs ws c.args.fill m (action c.args.statement.now) (tree c.in-If.test) (body_of (map action c.in-If.yes.items)) (other_of c.in-If.no) c.in-If.spot is test

pub run-returns-in-Case-clause-maps : goal.run-returns-in-Case-clause-maps
run-returns-in-Case-clause-maps t c =
    let m = maps c.args.numbers.now c.args.marks.now in
    let ws = width_in c.args.design.now.signals.items in
    let is = case_action c.args.statement.now c.in-Case.kind c.in-Case.full c.in-Case.parallel c.in-Case.selector c.in-Case.items c.in-Case.fallback c.in-Case.spot c.in-Case.is in
    c.run_case.ensures.maps c.in-Case.spot
    ∙ ap (λ (xs : List CaseItem). act ws c.args.fill m (Case c.in-Case.kind c.in-Case.full c.in-Case.parallel (tree c.in-Case.selector) (branches_of xs) (other_of c.in-Case.fallback) c.in-Case.spot)) c.deref-in-Case.ensures.value
    ∙ ap (λ (a : Action). act ws c.args.fill m a) (sym is)

pub run-returns-in-Block-clause-maps : goal.run-returns-in-Block-clause-maps
run-returns-in-Block-clause-maps t c =
    let m = maps c.args.numbers.now c.args.marks.now in
    let ws = width_in c.args.design.now.signals.items in
    let is = block_action c.args.statement.now c.in-Block.body c.in-Block.is in
    c.run_all-in-Block.ensures.maps
    ∙ ap (λ (xs : List Act). acts ws c.args.fill m (body_of (map action xs))) c.deref-in-Block.ensures.value
    ∙ ap (λ (a : Action). act ws c.args.fill m a) (sym is)

-- ---- statements in order

pub run_all-run-requires : goal.run_all-run-requires
run_all-run-requires t c =
    let signals = c.args.design.now.signals.items in
    let inv = c.loop-statement.invariant in
    let left = left_at c.args.body.now c.loop-statement.statement-index c.statement-item.result c.loop-statement-test.true c.statement-item.is in
    let lawful = subst (λ (xs : List Act). IsBody signals (body_of (map action xs))) left inv.1 in
    let part = act_load c.args.body.now c.loop-statement.statement-index c.statement-item.result c.loop-statement-test.true c.statement-item.is in
    let measure : 4 * load c.args.body.now + 1 ≡ t = c.decreases in
    let less : 4 * statements (action c.statement-item.result) < t = omega (arith, part, measure) in
    let here = ap (λ (xs : List Act). levels_of (body_of (map action xs))) left in
    let fewer : levels (action c.statement-item.result) ≤ levels_of (body_of (map action (drop c.loop-statement.statement-index c.args.body.now))) = omega (arith, here) in
    (less, (lawful.0, (inv.0, (inv.2, less_room _ _ (length signals) (length c.loop-statement.room) fewer inv.3))))

pub run_all-loop-statement-preserved : goal.run_all-loop-statement-preserved
run_all-loop-statement-preserved t c =
    let signals = c.args.design.now.signals.items in
    let ws = width_in signals in
    let inv = c.loop-statement.invariant in
    let others = body_of (map action (drop (c.loop-statement.statement-index + 1) c.args.body.now)) in
    let left = left_at c.args.body.now c.loop-statement.statement-index c.statement-item.result c.loop-statement-test.true c.statement-item.is in
    let lawful = subst (λ (xs : List Act). IsBody signals (body_of (map action xs))) left inv.1 in
    let here = ap (λ (xs : List Act). levels_of (body_of (map action xs))) left in
    let fewer : levels_of others ≤ levels_of (body_of (map action (drop c.loop-statement.statement-index c.args.body.now))) = omega (arith, here) in
    let ample = inv.2 in
    let same = c.run.auto.entries in
    let same_room = c.run.auto.room in
    let room = less_room _ _ (length signals) (length c.loop-statement.room) fewer inv.3 in (
      c.run.ensures.kept,
      lawful.1,
      omega (arith, ample, same),
      omega (arith, room, same_room),
      ap (λ (m : Maps). acts ws c.args.fill m others) c.run.ensures.maps
          ∙ ap (λ (xs : List Act). acts ws c.args.fill (maps c.loop-statement.numbers c.loop-statement.marks) (body_of (map action xs))) (sym left)
          ∙ inv.4,
    )

-- ---- a case

pub run_case-chosen_body-requires-clause-matched : goal.run_case-chosen_body-requires-clause-matched
run_case-chosen_body-requires-clause-matched t c =
    are_matched c.args.design.now.signals.items c.args.selector.now (length c.evaluate-bits.result) c.args.items.now c.evaluate-bits.ensures.width c.requires.branches

pub run_case-run_arms-requires : goal.run_case-run_arms-requires
run_case-run_arms-requires t c =
    let signals = c.args.design.now.signals.items in
    let branches = branches_of c.args.items.now in
    let measure : 4 * (items_load c.args.items.now + other_load c.args.fallback.now) + 3 ≡ t = c.decreases in
    let less : 4 * items_load c.args.items.now + 2 < t = omega (arith, measure) in
    let side = ap (λ p. max (cond p 1 0 + branch_levels branches) (other_levels (other_of c.args.fallback.now))) c.if-parallel.true in
    let fewer : 1 + branch_levels branches ≤ max (cond c.args.parallel 1 0 + branch_levels branches) (other_levels (other_of c.args.fallback.now)) = omega (arith, side) in
    (less, (are_matched signals c.args.selector.now (length c.evaluate-bits.result) c.args.items.now c.evaluate-bits.ensures.width c.requires.branches, (are_bodies signals (tree c.args.selector.now) branches c.requires.branches, (c.requires.kept, (c.requires.entries, less_room _ _ (length signals) (length c.args.room.now) fewer c.requires.room)))))

pub run_case-run_all-requires : goal.run_case-run_all-requires
run_case-run_all-requires t c =
    let signals = c.args.design.now.signals.items in
    let branches = branches_of c.args.items.now in
    let n = store c.args.numbers.now in
    let bits = c.evaluate-bits.result in
    let body = body_of (map action c.in-Some.body.now) in
    let chosen : Some body ≡ chosen_body c.args.fill n c.args.kind bits branches = sym (ap (option_map (λ b. body_of (map action b.now))) c.in-Some.is) ∙ c.chosen_body.ensures in
    let lawful = subst (λ (o : Option Actions). IsOtherwise signals (as_other o)) (sym chosen) (chosen_lawful c.args.fill n c.args.kind bits signals (tree c.args.selector.now) branches c.requires.branches) in
    let part = chosen_statements c.args.fill n c.args.kind bits branches in
    let same = ap (λ (o : Option Actions). other_statements (as_other o)) chosen in
    let measure : 4 * (items_load c.args.items.now + other_load c.args.fallback.now) + 3 ≡ t = c.decreases in
    let less : 4 * load c.in-Some.body.now + 1 < t = omega (arith, part, same, measure) in
    let small = chosen_levels c.args.fill n c.args.kind bits branches in
    let here = ap (λ (o : Option Actions). other_levels (as_other o)) chosen in
    let fewer : levels_of body ≤ max (cond c.args.parallel 1 0 + branch_levels branches) (other_levels (other_of c.args.fallback.now)) = omega (arith, small, here) in
    (less, (lawful, (c.requires.kept, (c.requires.entries, less_room _ _ (length signals) (length c.args.room.now) fewer c.requires.room))))

pub run_case-run_none-requires : goal.run_case-run_none-requires
run_case-run_none-requires t c =
    let signals = c.args.design.now.signals.items in
    let branches = branches_of c.args.items.now in
    let measure : 4 * (items_load c.args.items.now + other_load c.args.fallback.now) + 3 ≡ t = c.decreases in
    let less : 4 * other_load c.args.fallback.now + 2 < t = omega (arith, measure) in
    let fewer : other_levels (other_of c.args.fallback.now) ≤ max (cond c.args.parallel 1 0 + branch_levels branches) (other_levels (other_of c.args.fallback.now)) = omega arith in
    (less, (are_bodies signals (tree c.args.selector.now) branches c.requires.branches, (c.requires.fallback, (c.requires.kept, (c.requires.entries, less_room _ _ (length signals) (length c.args.room.now) fewer c.requires.room)))))

pub run_case-returns-then-parallel-clause-maps : goal.run_case-returns-then-parallel-clause-maps
run_case-returns-then-parallel-clause-maps t c = λ spot.
    let m = maps c.args.numbers.now c.args.marks.now in
    let ws = width_in c.args.design.now.signals.items in
    let e = tree c.args.selector.now in
    let branches = branches_of c.args.items.now in
    let body = body_of (map action c.in-Some.body.now) in
    let chosen : Some body ≡ chosen_body c.args.fill m.now c.args.kind (digits c.args.fill m.now e) branches =
    sym (ap (option_map (λ b. body_of (map action b.now))) c.in-Some.is) ∙ c.chosen_body.ensures
    ∙ ap (λ (bs : List Bit). chosen_body c.args.fill m.now c.args.kind bs branches) c.evaluate-bits.ensures.bits in
    c.run_arms.ensures.maps
    ∙ ap (λ (bs : List Bit). joined_arms m (act_arms ws c.args.fill m c.args.kind bs branches)) c.evaluate-bits.ensures.bits
    ∙ case_arms ws c.args.fill m c.args.kind c.args.full c.args.parallel e branches (other_of c.args.fallback.now) spot body chosen c.if-parallel.true

pub run_case-returns-else-parallel-clause-maps : goal.run_case-returns-else-parallel-clause-maps
run_case-returns-else-parallel-clause-maps t c = λ spot.
    let m = maps c.args.numbers.now c.args.marks.now in
    let ws = width_in c.args.design.now.signals.items in
    let e = tree c.args.selector.now in
    let branches = branches_of c.args.items.now in
    let body = body_of (map action c.in-Some.body.now) in
    let chosen : Some body ≡ chosen_body c.args.fill m.now c.args.kind (digits c.args.fill m.now e) branches =
    sym (ap (option_map (λ b. body_of (map action b.now))) c.in-Some.is) ∙ c.chosen_body.ensures
    ∙ ap (λ (bs : List Bit). chosen_body c.args.fill m.now c.args.kind bs branches) c.evaluate-bits.ensures.bits in
    c.run_all.ensures.maps
    ∙ case_first ws c.args.fill m c.args.kind c.args.full c.args.parallel e branches (other_of c.args.fallback.now) spot body chosen c.if-parallel.false

pub run_case-returns-in-None-clause-maps : goal.run_case-returns-in-None-clause-maps
run_case-returns-in-None-clause-maps t c = λ spot.
    let m = maps c.args.numbers.now c.args.marks.now in
    let ws = width_in c.args.design.now.signals.items in
    let e = tree c.args.selector.now in
    let branches = branches_of c.args.items.now in
    let chosen : None ≡ chosen_body c.args.fill m.now c.args.kind (digits c.args.fill m.now e) branches =
    sym (ap (option_map (λ b. body_of (map action b.now))) c.in-None.is) ∙ c.chosen_body.ensures
    ∙ ap (λ (bs : List Bit). chosen_body c.args.fill m.now c.args.kind bs branches) c.evaluate-bits.ensures.bits in
    c.run_none.ensures.maps
    ∙ case_none ws c.args.fill m c.args.kind c.args.full c.args.parallel e branches (other_of c.args.fallback.now) spot chosen

pub run-returns-in-Set-clause-maps : goal.run-returns-in-Set-clause-maps
run-returns-in-Set-clause-maps t c =
    let m = maps c.args.numbers.now c.args.marks.now in
    let ws = width_in c.args.design.now.signals.items in
    let f = c.args.fill in
    c.set.ensures.maps
    ∙ ap (λ (ps : List TargetPart). write_each c.in-Set.delayed m (digit_writes ws f m.now (map piece ps) (digits f m.now (tree c.in-Set.value)))) c.deref.ensures.value
    ∙ ap (λ (a : Act). act ws f m (action a)) (sym c.in-Set.is)

-- ---- bodies that may be left out

pub run_other-returns-in-Some-clause-maps : goal.run_other-returns-in-Some-clause-maps
run_other-returns-in-Some-clause-maps t c =
    let m = maps c.args.numbers.now c.args.marks.now in
    let ws = width_in c.args.design.now.signals.items in
    let f = c.args.fill in
    c.run_all.ensures.maps
    ∙ ap (λ (xs : List Act). acts ws f m (body_of (map action xs))) c.deref.ensures.value
    ∙ sym (ap (λ (o : Option (Vec Act Global)). act_other ws f m m (other_of o)) c.in-Some.is)

pub run_none-returns-in-Some-clause-maps : goal.run_none-returns-in-Some-clause-maps
run_none-returns-in-Some-clause-maps t c =
    let m = maps c.args.numbers.now c.args.marks.now in
    let ws = width_in c.args.design.now.signals.items in
    let f = c.args.fill in
    let branches = branches_of c.args.items.now in
    c.run_all.ensures.maps
    ∙ ap (λ (xs : List Act). acts ws f m (body_of (map action xs))) c.deref.ensures.value
    ∙ sym (ap (λ (o : Option (Vec Act Global)). none_runs ws f c.args.full branches (other_of o) m) c.in-Some.is)

-- ---- items side by side

pub run_arms-item_meets-requires-clause-expressions : goal.run_arms-item_meets-requires-clause-expressions
run_arms-item_meets-requires-clause-expressions t c =
    let signals = c.args.design.now.signals.items in
    let items = c.args.items.now in
    let test = c.loop-number-test.true in
    let place = length items - 1 - c.loop-number.number in
    let below : place < length items = omega (arith, test) in
    let matched = matched_at signals (length c.args.selector) items place c.index-items-items.result c.requires.matched below c.index-items-items.is in
    subst (λ (labels : List SizedExpr). All (λ label. IsExpression signals (tree label)) labels) (sym c.deref.ensures.value) matched.0

pub run_arms-item_meets-requires-clause-widths : goal.run_arms-item_meets-requires-clause-widths
run_arms-item_meets-requires-clause-widths t c =
    let signals = c.args.design.now.signals.items in
    let items = c.args.items.now in
    let test = c.loop-number-test.true in
    let place = length items - 1 - c.loop-number.number in
    let below : place < length items = omega (arith, test) in
    let matched = matched_at signals (length c.args.selector) items place c.index-items-items.result c.requires.matched below c.index-items-items.is in
    subst (λ (labels : List SizedExpr). All (λ label. label.width ≡ length c.args.selector) labels) (sym c.deref.ensures.value) matched.1

pub run_arms-loop-number-init : goal.run_arms-loop-number-init
run_arms-loop-number-init t c =
    let ws = width_in c.args.design.now.signals.items in
    let m = maps c.args.numbers.now c.args.marks.now in
    let items = c.args.items.now in
    let n = length c.args.numbers.now in
    let kept = c.requires.kept in
    let signals = kept.stored in
    let one = less_room 1 (1 + branch_levels (branches_of items)) (length c.args.design.now.signals.items) (length c.args.room.now) (omega arith) c.requires.room in
    let whole = length-take n c.args.room.now in
    let same = c.set_aside.auto.asides in
    let front = kept_front n c.set_aside.new.asides (drop n c.args.room.now) (omega (arith, one, whole, same, signals)) in
    let none = at_drop_all (λ (xs : List CaseItem). act_arms ws c.args.fill m c.args.kind c.args.selector (branches_of xs)) items (length items - 0) (omega arith) in
    let marks_same = c.set_aside.auto.marks in
    let marked = kept.marked in (
      record { stored = kept.stored; marked = marked ∙ sym marks_same; each = kept.each; next = λ i. kept.each i ∙ c.set_aside.ensures.widths i },
      c.set_aside.ensures.fresh,
      subst (λ (arms : List Maps). AreAside m arms (take n (c.set_aside.new.asides ++ drop n c.args.room.now))) (sym none)
          (subst (λ (xs : List Aside). AreAside m [] xs) (sym front) c.set_aside.ensures.asides),
      subst (λ (xs : List Aside). HaveSums c.args.numbers.now xs) (sym front) c.set_aside.ensures.sums,
      subst (λ (arms : List Maps). IsBounded m arms) (sym none) (bounded_none m),
    )

pub run_arms-returns-clause-maps : goal.run_arms-returns-clause-maps
run_arms-returns-clause-maps t c =
    let ws = width_in c.args.design.now.signals.items in
    let m = maps c.args.numbers.now c.args.marks.now in
    let items = c.args.items.now in
    let test = c.loop-number-test.false in
    let inv = c.loop-number.invariant in
    let all : length items - c.loop-number.number ≡ 0 = omega (arith, test) in
    let arms : List Maps = act_arms ws c.args.fill m c.args.kind c.args.selector (branches_of (drop (length items - c.loop-number.number) items)) in
    c.join.ensures.maps m arms inv.2 inv.4
    ∙ ap (λ k. joined_arms m (act_arms ws c.args.fill m c.args.kind c.args.selector (branches_of (drop k items)))) all

pub run_arms-returns-clause-kept : goal.run_arms-returns-clause-kept
run_arms-returns-clause-kept t c =
    let ws = width_in c.args.design.now.signals.items in
    let m = maps c.args.numbers.now c.args.marks.now in
    let items = c.args.items.now in
    let inv = c.loop-number.invariant in
    let kept = c.requires.kept in
    let arms : List Maps = act_arms ws c.args.fill m c.args.kind c.args.selector (branches_of (drop (length items - c.loop-number.number) items)) in
    let made = c.join.ensures.maps m arms inv.2 inv.4 in
    let each : (i : ℕ) → ws i ≡ widths c.join.new.numbers i
    = λ i. kept.each i ∙ sym (ap (λ (x : Maps). length (x.now i)) made ∙ length-tabulate (length (m.now i)) (λ k. cond (arms_write arms i k && not (arms_late arms i k)) (arm_bits arms i k) (get_or (m.now i) k X))) in
    let numbers = c.join.auto.numbers in
    let marks = c.join.auto.marks in
    let stored = inv.0.stored in
    let marked = inv.0.marked in
    record {
      stored = omega (arith, stored, numbers);
      marked = omega (arith, marked, marks);
      each = each;
      next = λ i. each i ∙ c.join.ensures.widths m arms inv.2 i;
    }

pub run_arms-run_all-requires : goal.run_arms-run_all-requires
run_arms-run_all-requires t c =
    let signals = c.args.design.now.signals.items in
    let items = c.args.items.now in
    let test = c.loop-number-test.true in
    let place = length items - 1 - c.loop-number.number in
    let below : place < length items = omega (arith, test) in
    let item = c.index-items-items.result in
    let value = c.deref-then-item_meets.ensures.value in
    let part = item_load items place item below c.index-items-items.is in
    let same = ap load value in
    let measure : 4 * items_load items + 2 ≡ t = c.decreases in
    let less : 4 * load c.deref-then-item_meets.result.now + 1 < t = omega (arith, part, same, measure) in
    let lawful = body_at signals items place item c.requires.bodies below c.index-items-items.is in
    let level = level_at items place item below c.index-items-items.is in
    let here = ap (λ (xs : List Act). levels_of (body_of (map action xs))) value in
    let fewer : 1 + levels_of (body_of (map action c.deref-then-item_meets.result.now)) ≤ 1 + branch_levels (branches_of items) = omega (arith, level, here) in
    let fits = less_room _ _ (length signals) (length c.args.room.now) fewer c.requires.room in
    let entries = c.loop-number.auto.entries in
    let room = c.loop-number.auto.room in
    let ample = c.requires.entries in
    let stored = c.requires.kept.stored in
    let rest = length-drop (length c.args.numbers.now) c.loop-number.room in
    (less, (subst (λ (xs : List Act). IsBody signals (body_of (map action xs))) (sym value) lawful, (c.loop-number.invariant.0, (omega (arith, entries, ample), omega (arith, fits, room, stored, rest)))))

pub run_arms-loop-number-preserved : goal.run_arms-loop-number-preserved
run_arms-loop-number-preserved t c =
    let signals = c.args.design.now.signals.items in
    let ws = width_in signals in
    let f = c.args.fill in
    let m : Maps = maps c.args.numbers.now c.args.marks.now in
    let was : Maps = maps c.loop-number.numbers c.loop-number.marks in
    let items = c.args.items.now in
    let item = c.index-items-items.result in
    let n = length c.args.numbers.now in
    let test = c.loop-number-test.true in
    let inv = c.loop-number.invariant in
    let below : c.loop-number.number < length items = omega (arith, test) in
    let body : Actions = body_of (map action item.body.items) in
    let arms : List Maps = act_arms ws f m c.args.kind c.args.selector (branches_of (drop (length items - c.loop-number.number) items)) in
    let later : List Maps = act_arms ws f m c.args.kind c.args.selector (branches_of (drop (length items - (c.loop-number.number + 1)) items)) in
    let more = arms_more ws f m c.args.kind c.args.selector items c.loop-number.number item below c.index-items-items.is in
    let now_is : store c.loop-number.numbers ≡ store c.args.numbers.now = ap (λ (x : Maps). x.now) inv.1 in
    let known : c.item_meets.result ≡ some_meets f m.now c.args.kind c.args.selector (map tree item.labels.items) =
    c.item_meets.ensures
    ∙ ap (λ (ls : List SizedExpr). some_meets f (store c.loop-number.numbers) c.args.kind c.args.selector (map tree ls)) c.deref.ensures.value
    ∙ ap (λ (v : Values). some_meets f v c.args.kind c.args.selector (map tree item.labels.items)) now_is in
    let picked : (b : Bool) → c.item_meets.result ≡ b → later ≡ (if b then acts ws f (fresh m) body ∷ arms else arms) =
    λ b is. more ∙ ap (λ (x : Bool). if x then acts ws f (fresh m) body ∷ arms else arms) (sym known ∙ is) in
    elim c.if-item_meets.branch [
      | run_arms-then-item_meets w ↦
          let kept = c.requires.kept in
          let ran : maps w.run_all.new.numbers w.run_all.new.marks ≡ acts ws f (fresh m) body =
          w.run_all.ensures.maps
          ∙ ap (λ (xs : List Act). acts ws f was (body_of (map action xs))) w.deref-then-item_meets.ensures.value
          ∙ ap (λ (x : Maps). acts ws f x body) inv.1 in
          let one = less_room 1 (1 + branch_levels (branches_of items)) (length signals) (length c.args.room.now) (omega arith) c.requires.room in
          let same_room = c.loop-number.auto.room in
          let stored = kept.stored in
          let whole = length-take n c.loop-number.room in
          let front : (ys : List Aside) → take n (take n c.loop-number.room ++ ys) ≡ take n c.loop-number.room =
          λ ys. kept_front n (take n c.loop-number.room) ys (omega (arith, one, whole, same_room, stored)) in
          let are = subst (λ (xs : List Aside). AreAside m arms xs) (sym (front _)) inv.2 in
          let made = w.collect.ensures.maps m arms are in
          let long = w.collect.auto.asides ∙ ap length (front _) in
          let back : (ys : List Aside) → take n (w.collect.new.asides ++ ys) ≡ w.collect.new.asides =
          λ ys. kept_front n w.collect.new.asides ys (omega (arith, one, whole, same_room, stored, long)) in
          let each : (i : ℕ) → ws i ≡ widths w.collect.new.numbers i = λ i. kept.each i ∙ sym (ap (λ (x : Maps). length (x.now i)) made) in
          let ended = w.run_all.ensures.kept in
          stands_same signals m n (maps w.run_all.new.numbers w.run_all.new.marks ∷ arms) later w.collect.new.numbers c.if-item_meets.numbers w.collect.new.marks c.if-item_meets.marks (w.collect.new.asides ++ _) c.if-item_meets.room (picked true w.if-item_meets.true ∙ ap (λ x. x ∷ arms) (sym ran)) w.numbers-is w.marks-is w.room-is (
            record {
              stored = ended.stored ∙ sym w.collect.auto.numbers;
              marked = ended.marked ∙ sym w.collect.auto.marks;
              each = each;
              next = λ i. each i ∙ w.collect.ensures.widths i;
            },
            made,
            subst (λ (xs : List Aside). AreAside m (maps w.run_all.new.numbers w.run_all.new.marks ∷ arms) xs) (sym (back _)) (w.collect.ensures.asides m arms are),
            subst (λ (xs : List Aside). HaveSums w.collect.new.numbers xs) (sym (back _)) w.collect.ensures.sums,
            bounded_more m arms w.run_all.new.numbers w.run_all.new.marks inv.4 (λ i. sym (ended.each i) ∙ ended.next i) (λ i. sym (ended.each i) ∙ kept.each i),
          )
      | run_arms-else-item_meets w ↦ stands_same signals m n arms later c.loop-number.numbers c.if-item_meets.numbers c.loop-number.marks c.if-item_meets.marks c.loop-number.room c.if-item_meets.room (picked false w.if-item_meets.false) w.numbers-is w.marks-is w.room-is inv
    ]
