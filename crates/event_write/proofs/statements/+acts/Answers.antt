use Rattle.std.proofs.Common.{◌≡◌, ◌<◌, ◌+◌, ◌*◌, ◌∙◌, true, false, List, length, map, drop, Option, None, Some, ap, sym, subst, arith}
use Rattle.std.specs.Option.{option_map}
use Rattle.rtl_bits.specs.declared.Bit.{Bit}
use Rattle.rtl_bits.specs.Bit.{is_one}
use Rattle.rtl_bits.specs.Bits.{truth_bit}
use Rattle.rtl_flat.specs.declared.act.Act.{Act}
use Rattle.rtl_flat.specs.declared.act.CaseItem.{CaseItem}
use Rattle.rtl_flat.specs.declared.signal.Signal.{Signal}
use Rattle.rtl_flat.specs.Expression.{tree}
use Rattle.rtl_flat.specs.Process.{Actions, action, body_of}
use Rattle.rtl_flat.specs.Signs.{width_in}
use Rattle.rtl_flat.specs.Value.{store, value}
use Rattle.rtl_flat.specs.WellFormed.{AreBranches, IsAction, IsBody, IsOtherwise, statements, other_statements}
use Rattle.rtl_scan.specs.Bodies.{branches_of, other_of}
use Rattle.rtl_scan.specs.Loads.{load, other_load, items_load}
use Rattle.rtl_scan.proofs.Labels.{left_at}
use Rattle.rtl_scan.proofs.Weights.{if_load, case_load, block_load, act_load}
use Rattle.event_model.specs.Bodies.{body_made, branches_made, made, other_made}
use Rattle.event_model.specs.Queue.{perform_all}
use Rattle.event_write.specs.Choices.{AreMatched, chosen_body}
use Rattle.event_write.specs.QueueState.{design_of, state}
use Rattle.event_write.specs.Rooms.{branch_rooms, other_room, room, rooms}
use Rattle.event_write.proofs.Choosing.{are_matched, as_other, chosen_lawful, chosen_made, chosen_room, chosen_statements, made_of}
use Rattle.event_write.proofs.Making.{block_action, case_action, if_action, kept_more, one_made, other_way_made, taken_made}
use Rattle.event_write.proofs.statements.+acts.Goals as goal

-- ---- one statement

pub make-make_all-requires : goal.make-make_all-requires
make-make_all-requires t c =
    let signals = c.args.fanout.now.design.now.signals.items in
    let is = if_action c.args.act.now c.in-If.test c.in-If.yes c.in-If.no c.in-If.spot c.in-If.is in
    let lawful = subst (IsAction signals) is c.requires.act in
    let value = c.deref-then-holds.ensures.value in
    let part = if_load c.args.act.now c.in-If.test c.in-If.yes c.in-If.no c.in-If.spot c.in-If.is in
    let measure : 4 * statements (action c.args.act.now) ≡ t = c.decreases in
    let same = ap load value in
    let less : 4 * load c.deref-then-holds.result.now + 1 < t = omega (arith, part, measure, same) in
    let whole = ap room is in
    let here = ap (λ (xs : List Act). rooms (body_of (map action xs))) value in
    let fits = c.requires.room in
    (less, (c.requires.fanout, (c.requires.queue, (subst (λ (xs : List Act). IsBody signals (body_of (map action xs))) (sym value) lawful.1, (c.requires.scratch, omega (arith, whole, here, fits))))))

pub make-make_other-requires : goal.make-make_other-requires
make-make_other-requires t c =
    let signals = c.args.fanout.now.design.now.signals.items in
    let is = if_action c.args.act.now c.in-If.test c.in-If.yes c.in-If.no c.in-If.spot c.in-If.is in
    let lawful = subst (IsAction signals) is c.requires.act in
    let part = if_load c.args.act.now c.in-If.test c.in-If.yes c.in-If.no c.in-If.spot c.in-If.is in
    let measure : 4 * statements (action c.args.act.now) ≡ t = c.decreases in
    let less : 4 * other_load c.in-If.no + 2 < t = omega (arith, part, measure) in
    let whole = ap room is in
    let fits = c.requires.room in
    (less, (c.requires.fanout, (c.requires.queue, (lawful.2, (c.requires.scratch, omega (arith, whole, fits))))))

pub make-make_case-requires : goal.make-make_case-requires
make-make_case-requires t c =
    let signals = c.args.fanout.now.design.now.signals.items in
    let is = case_action c.args.act.now c.in-Case.kind c.in-Case.full c.in-Case.parallel c.in-Case.selector c.in-Case.items c.in-Case.fallback c.in-Case.spot c.in-Case.is in
    let lawful = subst (IsAction signals) is c.requires.act in
    let value = c.deref-in-Case.ensures.value in
    let part = case_load c.args.act.now c.in-Case.kind c.in-Case.full c.in-Case.parallel c.in-Case.selector c.in-Case.items c.in-Case.fallback c.in-Case.spot c.in-Case.is in
    let measure : 4 * statements (action c.args.act.now) ≡ t = c.decreases in
    let same = ap items_load value in
    let less : 4 * (items_load c.deref-in-Case.result.now + other_load c.in-Case.fallback) + 3 < t = omega (arith, part, measure, same) in
    let whole = ap room is in
    let here = ap (λ (xs : List CaseItem). branch_rooms (branches_of xs)) value in
    let fits = c.requires.room in
    (less, (c.requires.fanout, (c.requires.queue, (lawful.0, (subst (λ (xs : List CaseItem). AreBranches signals (tree c.in-Case.selector) (branches_of xs)) (sym value) lawful.1, (lawful.2, (c.requires.scratch, omega (arith, whole, here, fits))))))))

pub make-make_all-requires-in-Block : goal.make-make_all-requires-in-Block
make-make_all-requires-in-Block t c =
    let signals = c.args.fanout.now.design.now.signals.items in
    let is = block_action c.args.act.now c.in-Block.body c.in-Block.is in
    let lawful = subst (IsAction signals) is c.requires.act in
    let value = c.deref-in-Block.ensures.value in
    let part = block_load c.args.act.now c.in-Block.body c.in-Block.is in
    let measure : 4 * statements (action c.args.act.now) ≡ t = c.decreases in
    let same = ap load value in
    let less : 4 * load c.deref-in-Block.result.now + 1 < t = omega (arith, part, measure, same) in
    let whole = ap room is in
    let here = ap (λ (xs : List Act). rooms (body_of (map action xs))) value in
    let fits = c.requires.room in
    (less, (c.requires.fanout, (c.requires.queue, (subst (λ (xs : List Act). IsBody signals (body_of (map action xs))) (sym value) lawful, (c.requires.scratch, omega (arith, whole, here, fits))))))

pub make-returns-then-holds-clause-state : goal.make-returns-then-holds-clause-state
make-returns-then-holds-clause-state t c =
    let d = design_of c.args.fanout.now in
    let s = state c.args.queue.now in
    let ws = width_in c.args.fanout.now.design.now.signals.items in
    let v = store c.args.queue.now.values.items in
    let is = if_action c.args.act.now c.in-If.test c.in-If.yes c.in-If.no c.in-If.spot c.in-If.is in
    let test : true ≡ is_one (truth_bit (value v (tree c.in-If.test))) =
    sym c.if-holds.true ∙ c.holds.ensures ∙ ap (λ (vs : List (List Bit)). is_one (truth_bit (value (store vs) (tree c.in-If.test)))) c.deref-in-If-2.ensures.value in
    c.make_all.ensures.state
    ∙ ap (λ (xs : List Act). perform_all d s (body_made ws v (body_of (map action xs)))) c.deref-then-holds.ensures.value
    ∙ ap (perform_all d s) (taken_made ws v (action c.args.act.now) (tree c.in-If.test) (body_of (map action c.in-If.yes.items)) (other_of c.in-If.no) c.in-If.spot is test)

pub make-returns-then-holds-clause-kept : goal.make-returns-then-holds-clause-kept
make-returns-then-holds-clause-kept t c =
    let is = if_action c.args.act.now c.in-If.test c.in-If.yes c.in-If.no c.in-If.spot c.in-If.is in
    let whole = ap room is in
    let here = ap (λ (xs : List Act). rooms (body_of (map action xs))) c.deref-then-holds.ensures.value in
    kept_more (rooms (body_of (map action c.deref-then-holds.result.now))) (room (action c.args.act.now)) c.args.queue.now c.make_all.new.queue (omega (arith, whole, here)) c.make_all.ensures.kept

pub make-returns-else-holds-clause-state : goal.make-returns-else-holds-clause-state
make-returns-else-holds-clause-state t c =
    let d = design_of c.args.fanout.now in
    let s = state c.args.queue.now in
    let ws = width_in c.args.fanout.now.design.now.signals.items in
    let v = store c.args.queue.now.values.items in
    let is = if_action c.args.act.now c.in-If.test c.in-If.yes c.in-If.no c.in-If.spot c.in-If.is in
    let test : false ≡ is_one (truth_bit (value v (tree c.in-If.test))) =
    sym c.if-holds.false ∙ c.holds.ensures ∙ ap (λ (vs : List (List Bit)). is_one (truth_bit (value (store vs) (tree c.in-If.test)))) c.deref-in-If-2.ensures.value in
    c.make_other.ensures.state
    ∙ ap (perform_all d s) (other_way_made ws v (action c.args.act.now) (tree c.in-If.test) (body_of (map action c.in-If.yes.items)) (other_of c.in-If.no) c.in-If.spot is test)

pub make-returns-else-holds-clause-kept : goal.make-returns-else-holds-clause-kept
make-returns-else-holds-clause-kept t c =
    let is = if_action c.args.act.now c.in-If.test c.in-If.yes c.in-If.no c.in-If.spot c.in-If.is in
    let whole = ap room is in
    kept_more (other_room (other_of c.in-If.no)) (room (action c.args.act.now)) c.args.queue.now c.make_other.new.queue (omega (arith, whole)) c.make_other.ensures.kept

pub make-returns-in-Case-clause-state : goal.make-returns-in-Case-clause-state
make-returns-in-Case-clause-state t c =
    let d = design_of c.args.fanout.now in
    let s = state c.args.queue.now in
    let ws = width_in c.args.fanout.now.design.now.signals.items in
    let v = store c.args.queue.now.values.items in
    let is = case_action c.args.act.now c.in-Case.kind c.in-Case.full c.in-Case.parallel c.in-Case.selector c.in-Case.items c.in-Case.fallback c.in-Case.spot c.in-Case.is in
    c.make_case.ensures.state
    ∙ ap (λ (xs : List CaseItem). perform_all d s (branches_made ws v c.in-Case.kind (value v (tree c.in-Case.selector)) (other_made ws v (other_of c.in-Case.fallback)) (branches_of xs))) c.deref-in-Case.ensures.value
    ∙ ap (λ a. perform_all d s (made ws v a)) (sym is)

pub make-returns-in-Case-clause-kept : goal.make-returns-in-Case-clause-kept
make-returns-in-Case-clause-kept t c =
    let is = case_action c.args.act.now c.in-Case.kind c.in-Case.full c.in-Case.parallel c.in-Case.selector c.in-Case.items c.in-Case.fallback c.in-Case.spot c.in-Case.is in
    let whole = ap room is in
    let here = ap (λ (xs : List CaseItem). branch_rooms (branches_of xs)) c.deref-in-Case.ensures.value in
    kept_more (branch_rooms (branches_of c.deref-in-Case.result.now) + other_room (other_of c.in-Case.fallback)) (room (action c.args.act.now)) c.args.queue.now c.make_case.new.queue (omega (arith, whole, here)) c.make_case.ensures.kept

pub make-returns-in-Block-clause-state : goal.make-returns-in-Block-clause-state
make-returns-in-Block-clause-state t c =
    let d = design_of c.args.fanout.now in
    let s = state c.args.queue.now in
    let ws = width_in c.args.fanout.now.design.now.signals.items in
    let v = store c.args.queue.now.values.items in
    let is = block_action c.args.act.now c.in-Block.body c.in-Block.is in
    c.make_all-in-Block.ensures.state
    ∙ ap (λ (xs : List Act). perform_all d s (body_made ws v (body_of (map action xs)))) c.deref-in-Block.ensures.value
    ∙ ap (λ a. perform_all d s (made ws v a)) (sym is)

pub make-returns-in-Block-clause-kept : goal.make-returns-in-Block-clause-kept
make-returns-in-Block-clause-kept t c =
    let is = block_action c.args.act.now c.in-Block.body c.in-Block.is in
    let whole = ap room is in
    let here = ap (λ (xs : List Act). rooms (body_of (map action xs))) c.deref-in-Block.ensures.value in
    kept_more (rooms (body_of (map action c.deref-in-Block.result.now))) (room (action c.args.act.now)) c.args.queue.now c.make_all-in-Block.new.queue (omega (arith, whole, here)) c.make_all-in-Block.ensures.kept

-- ---- statements in order

pub make_all-make-requires : goal.make_all-make-requires
make_all-make-requires t c =
    let signals = c.args.fanout.now.design.now.signals.items in
    let inv = c.loop-act.invariant in
    let left = left_at c.args.acts.now c.loop-act.act-index c.act-item.result c.loop-act-test.true c.act-item.is in
    let lawful = subst (λ (xs : List Act). IsBody signals (body_of (map action xs))) left inv.1 in
    let part = act_load c.args.acts.now c.loop-act.act-index c.act-item.result c.loop-act-test.true c.act-item.is in
    let measure : 4 * load c.args.acts.now + 1 ≡ t = c.decreases in
    let less : 4 * statements (action c.act-item.result) < t = omega (arith, part, measure) in
    let here = ap (λ (xs : List Act). rooms (body_of (map action xs))) left in
    let more = inv.2 in
    let scratch = inv.3 in
    let used = inv.4 in
    let ample = c.requires.scratch in
    let fits = c.requires.room in
    (less, (c.requires.fanout, (inv.0, (lawful.0, (omega (arith, ample, scratch), omega (arith, here, more, used, fits))))))

pub make_all-loop-act-preserved : goal.make_all-loop-act-preserved
make_all-loop-act-preserved t c =
    let d = design_of c.args.fanout.now in
    let signals = c.args.fanout.now.design.now.signals.items in
    let ws = width_in signals in
    let inv = c.loop-act.invariant in
    let kept = c.make.ensures.kept in
    let others = body_of (map action (drop (c.loop-act.act-index + 1) c.args.acts.now)) in
    let left = left_at c.args.acts.now c.loop-act.act-index c.act-item.result c.loop-act-test.true c.act-item.is in
    let lawful = subst (λ (xs : List Act). IsBody signals (body_of (map action xs))) left inv.1 in
    let here = ap (λ (xs : List Act). rooms (body_of (map action xs))) left in
    let more = inv.2 in
    let more_now = kept.room in
    let scratch = inv.3 in
    let scratch_now = kept.scratch in
    let used = inv.4 in
    let used_now = kept.waiting in (
      c.make.ensures.queue,
      lawful.1,
      omega (arith, more, more_now),
      omega (arith, scratch, scratch_now),
      omega (arith, here, used, used_now),
      kept.active ∙ inv.5,
      kept.next ∙ inv.6,
      kept.levels ∙ inv.7,
      one_made d (state c.loop-act.queue) (state c.make.new.queue) ws (action c.act-item.result) others c.make.ensures.state
          ∙ ap (λ (xs : List Act). perform_all d (state c.loop-act.queue) (body_made ws (store c.loop-act.queue.values.items) (body_of (map action xs)))) (sym left)
          ∙ inv.8,
    )

-- ---- a case

pub make_case-chosen_body-requires-clause-matched : goal.make_case-chosen_body-requires-clause-matched
make_case-chosen_body-requires-clause-matched t c =
    let signals = c.args.fanout.now.design.now.signals.items in
    subst (λ (ss : List Signal). AreMatched ss (length c.evaluate-bits.result) c.args.items.now) (sym c.deref-3.ensures.value)
    (are_matched signals c.args.selector.now (length c.evaluate-bits.result) c.args.items.now c.evaluate-bits.ensures.width c.requires.branches)

pub make_case-make_all-requires : goal.make_case-make_all-requires
make_case-make_all-requires t c =
    let signals = c.args.fanout.now.design.now.signals.items in
    let branches = branches_of c.args.items.now in
    let v = store c.deref-4.result.now in
    let bits = c.evaluate-bits.result in
    let body = body_of (map action c.in-Some.body.now) in
    let chosen : Some body ≡ chosen_body c.args.kind v bits branches = sym (ap (option_map (λ b. body_of (map action b.now))) c.in-Some.is) ∙ c.chosen_body.ensures in
    let lawful = subst (λ (o : Option Actions). IsOtherwise signals (as_other o)) (sym chosen) (chosen_lawful signals (tree c.args.selector.now) c.args.kind v bits branches c.requires.branches) in
    let part = chosen_statements c.args.kind v bits branches in
    let same = ap (λ (o : Option Actions). other_statements (as_other o)) chosen in
    let measure : 4 * (items_load c.args.items.now + other_load c.args.fallback.now) + 3 ≡ t = c.decreases in
    let less : 4 * load c.in-Some.body.now + 1 < t = omega (arith, part, same, measure) in
    let small = chosen_room c.args.kind v bits branches in
    let here = ap (λ (o : Option Actions). other_room (as_other o)) chosen in
    let fits = c.requires.room in
    (less, (c.requires.fanout, (c.requires.queue, (lawful, (c.requires.scratch, omega (arith, small, here, fits))))))

pub make_case-returns-in-Some-clause-state : goal.make_case-returns-in-Some-clause-state
make_case-returns-in-Some-clause-state t c =
    let d = design_of c.args.fanout.now in
    let s = state c.args.queue.now in
    let ws = width_in c.args.fanout.now.design.now.signals.items in
    let v = store c.args.queue.now.values.items in
    let e = tree c.args.selector.now in
    let branches = branches_of c.args.items.now in
    let none = other_made ws v (other_of c.args.fallback.now) in
    let bits : c.evaluate-bits.result ≡ value v e = c.evaluate-bits.ensures.bits ∙ ap (λ (vs : List (List Bit)). value (store vs) e) c.deref-2.ensures.value in
    let chosen : Some (body_of (map action c.in-Some.body.now)) ≡ chosen_body c.args.kind v (value v e) branches =
    sym (ap (option_map (λ b. body_of (map action b.now))) c.in-Some.is) ∙ c.chosen_body.ensures
    ∙ ap (λ (vs : List (List Bit)). chosen_body c.args.kind (store vs) c.evaluate-bits.result branches) c.deref-4.ensures.value
    ∙ ap (λ (bs : List Bit). chosen_body c.args.kind v bs branches) bits in
    c.make_all.ensures.state
    ∙ ap (λ o. perform_all d s (made_of ws v none o)) chosen
    ∙ ap (perform_all d s) (sym (chosen_made ws v c.args.kind (value v e) none branches))

pub make_case-returns-in-Some-clause-kept : goal.make_case-returns-in-Some-clause-kept
make_case-returns-in-Some-clause-kept t c =
    let branches = branches_of c.args.items.now in
    let v = store c.deref-4.result.now in
    let bits = c.evaluate-bits.result in
    let chosen : Some (body_of (map action c.in-Some.body.now)) ≡ chosen_body c.args.kind v bits branches = sym (ap (option_map (λ b. body_of (map action b.now))) c.in-Some.is) ∙ c.chosen_body.ensures in
    let small = chosen_room c.args.kind v bits branches in
    let here = ap (λ (o : Option Actions). other_room (as_other o)) chosen in
    kept_more (rooms (body_of (map action c.in-Some.body.now))) (branch_rooms branches + other_room (other_of c.args.fallback.now)) c.args.queue.now c.make_all.new.queue (omega (arith, small, here)) c.make_all.ensures.kept

pub make_case-returns-in-None-clause-state : goal.make_case-returns-in-None-clause-state
make_case-returns-in-None-clause-state t c =
    let d = design_of c.args.fanout.now in
    let s = state c.args.queue.now in
    let ws = width_in c.args.fanout.now.design.now.signals.items in
    let v = store c.args.queue.now.values.items in
    let e = tree c.args.selector.now in
    let branches = branches_of c.args.items.now in
    let none = other_made ws v (other_of c.args.fallback.now) in
    let bits : c.evaluate-bits.result ≡ value v e = c.evaluate-bits.ensures.bits ∙ ap (λ (vs : List (List Bit)). value (store vs) e) c.deref-2.ensures.value in
    let chosen : None ≡ chosen_body c.args.kind v (value v e) branches =
    sym (ap (option_map (λ b. body_of (map action b.now))) c.in-None.is) ∙ c.chosen_body.ensures
    ∙ ap (λ (vs : List (List Bit)). chosen_body c.args.kind (store vs) c.evaluate-bits.result branches) c.deref-4.ensures.value
    ∙ ap (λ (bs : List Bit). chosen_body c.args.kind v bs branches) bits in
    c.make_other.ensures.state
    ∙ ap (λ o. perform_all d s (made_of ws v none o)) chosen
    ∙ ap (perform_all d s) (sym (chosen_made ws v c.args.kind (value v e) none branches))
