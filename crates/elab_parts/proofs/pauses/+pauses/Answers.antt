use Rattle.std.proofs.Common.{◌≡◌, ◌∙◌, ◌+◌, ◌-◌, ◌++◌, ℕ, List, IfOk, zero, suc, map, subst, Ok, Err, SFits, ap, arith, append-nil, refl, rules, sym, to_z, w64}
use Rattle.std.proofs.lemmas.Int.{to_z-of_z}
use Rattle.rtl_tree.specs.TreeExpr.{formula, identifier}
use Rattle.rtl_tree.specs.TreeStmt.{action, action_row, branch, branch_row}
use Rattle.elab_body.specs.elab_scope.Names.{meanings}
use Rattle.elab_body.specs.Bodies.{Head, all_turns, body_steps, branches_steps, in_turn, steps, turns}
use Rattle.elab_body.specs.Courses.{head_of}
use Rattle.elab_body.specs.Steps.{delays_of}
use Rattle.elab_body.proofs.Indices.{indexed_restored, indexed_turned}
use Rattle.elab_parts.proofs.Pausing.{assigned_pauses, block_pauses, case_pauses, for_pauses, item_pauses, pause_done, pause_goes, pause_stops, row_pauses}
use Rattle.elab_parts.proofs.pauses.+pauses.Goals as goal

pub push_loop-returns-clause-same : goal.push_loop-returns-clause-same
push_loop-returns-clause-same t c =
    indexed_restored (meanings c.args.names.now) (meanings c.push_turns-made.new.names) (meanings c.set_index.new.self) c.args.head.index.now.text c.get-before.result c.push_turns-made.ensures.same c.get-before.ensures c.set_index.ensures

pub push_turns-returns-then-not-goes_on-clause-made : goal.push_turns-returns-then-not-goes_on-clause-made
push_turns-returns-then-not-goes_on-clause-made t c =
    let scope = meanings c.args.names.now in
    let in_it : meanings c.set_index.new.self ≡ in_turn scope (head_of c.args.head) (to_z w64 c.loop-turn.number-bits) = c.set_index.ensures ∙ c.loop-turn.invariant.1 _ in
    sym (pause_stops c.loop-turn.made.items (steps (action c.args.body.now)) scope (meanings c.set_index.new.self) (head_of c.args.head) (4096 - c.loop-turn._turn) (to_z w64 c.loop-turn.number-bits) c.constant-condition.result in_it c.constant-condition.ensures (sym c.goes_on.ensures ∙ c.if-not-goes_on.true))
    ∙ c.loop-turn.invariant.0
    ∙ ap (λ n. c.args.made.items ++ delays_of (turns (steps (action c.args.body.now)) scope (head_of c.args.head) 4096 n)) (to_z-of_z w64 c.args.first c.ranges.first)

pub push_turns-returns-then-not-goes_on-clause-same : goal.push_turns-returns-then-not-goes_on-clause-same
push_turns-returns-then-not-goes_on-clause-same t c =
    indexed_turned (meanings c.args.names.now) (meanings c.loop-turn.names) (meanings c.set_index.new.self) (meanings c.set_index.new.self) c.args.head.index.now.text _ c.loop-turn.invariant.1 c.set_index.ensures refl

pub push_turns-returns-in_err-made-clause-same : goal.push_turns-returns-in_err-made-clause-same
push_turns-returns-in_err-made-clause-same t c =
    indexed_turned (meanings c.args.names.now) (meanings c.loop-turn.names) (meanings c.set_index.new.self) (meanings c.push_pauses.new.names) c.args.head.index.now.text _ c.loop-turn.invariant.1 c.set_index.ensures c.push_pauses.ensures.same

pub push_turns-returns-in-Err-clause-made : goal.push_turns-returns-in-Err-clause-made
push_turns-returns-in-Err-clause-made t c =
    let scope = meanings c.args.names.now in
    let in_it : meanings c.set_index.new.self ≡ in_turn scope (head_of c.args.head) (to_z w64 c.loop-turn.number-bits) = c.set_index.ensures ∙ c.loop-turn.invariant.1 _ in
    let more : 4096 - c.loop-turn._turn ≡ suc (4096 - (c.loop-turn._turn + 1)) = omega arith in
    sym (append-nil c.in_ok-made.made.items)
    ∙ sym (pause_goes c.loop-turn.made.items c.in_ok-made.made.items (steps (action c.args.body.now)) scope (meanings c.set_index.new.self) (meanings c.push_pauses.new.names) (head_of c.args.head) (4096 - c.loop-turn._turn) (4096 - (c.loop-turn._turn + 1)) (to_z w64 c.loop-turn.number-bits) c.constant-condition.result (Err c.in-Err.field-0) in_it c.push_pauses.ensures.same more c.constant-condition.ensures (sym c.goes_on.ensures ∙ c.if-not-goes_on.false) c.in_ok-made.ensures.made (sym c.in-Err.is ∙ c.constant.ensures))
    ∙ c.loop-turn.invariant.0
    ∙ ap (λ n. c.args.made.items ++ delays_of (turns (steps (action c.args.body.now)) scope (head_of c.args.head) 4096 n)) (to_z-of_z w64 c.args.first c.ranges.first)

pub push_turns-returns-in-Err-clause-same : goal.push_turns-returns-in-Err-clause-same
push_turns-returns-in-Err-clause-same t c =
    indexed_turned (meanings c.args.names.now) (meanings c.loop-turn.names) (meanings c.set_index.new.self) (meanings c.push_pauses.new.names) c.args.head.index.now.text _ c.loop-turn.invariant.1 c.set_index.ensures c.push_pauses.ensures.same

pub push_turns-loop-turn-preserved : goal.push_turns-loop-turn-preserved
push_turns-loop-turn-preserved t c =
    let scope = meanings c.args.names.now in
    let in_it : meanings c.set_index.new.self ≡ in_turn scope (head_of c.args.head) (to_z w64 c.loop-turn.number-bits) = c.set_index.ensures ∙ c.loop-turn.invariant.1 _ in
    let more : 4096 - c.loop-turn._turn ≡ suc (4096 - (c.loop-turn._turn + 1)) = omega arith in
    let fits : SFits w64 c.in-Ok.next = search rules in (
      ap (λ n. c.in_ok-made.made.items ++ delays_of (turns (steps (action c.args.body.now)) scope (head_of c.args.head) (4096 - (c.loop-turn._turn + 1)) n)) (to_z-of_z w64 c.in-Ok.next fits)
          ∙ sym (pause_goes c.loop-turn.made.items c.in_ok-made.made.items (steps (action c.args.body.now)) scope (meanings c.set_index.new.self) (meanings c.push_pauses.new.names) (head_of c.args.head) (4096 - c.loop-turn._turn) (4096 - (c.loop-turn._turn + 1)) (to_z w64 c.loop-turn.number-bits) c.constant-condition.result (Ok c.in-Ok.next) in_it c.push_pauses.ensures.same more c.constant-condition.ensures (sym c.goes_on.ensures ∙ c.if-not-goes_on.false) c.in_ok-made.ensures.made (sym c.in-Ok.is ∙ c.constant.ensures))
          ∙ c.loop-turn.invariant.0,
      indexed_turned (meanings c.args.names.now) (meanings c.loop-turn.names) (meanings c.set_index.new.self) (meanings c.push_pauses.new.names) c.args.head.index.now.text _ c.loop-turn.invariant.1 c.set_index.ensures c.push_pauses.ensures.same,
    )

pub push_turns-returns-clause-made : goal.push_turns-returns-clause-made
push_turns-returns-clause-made t c =
    let scope = meanings c.args.names.now in
    let none : 4096 - c.loop-turn._turn ≡ zero = omega arith in
    sym (pause_done c.loop-turn.made.items (steps (action c.args.body.now)) scope (head_of c.args.head) (4096 - c.loop-turn._turn) (to_z w64 c.loop-turn.number-bits) none)
    ∙ c.loop-turn.invariant.0
    ∙ ap (λ n. c.args.made.items ++ delays_of (turns (steps (action c.args.body.now)) scope (head_of c.args.head) 4096 n)) (to_z-of_z w64 c.args.first c.ranges.first)

pub push_bodies-loop-body-preserved : goal.push_bodies-loop-body-preserved
push_bodies-loop-body-preserved t c =
    (row_pauses (meanings c.args.names.now) (meanings c.loop-body.names) c.args.all.now c.loop-body.body-index c.body-item.result c.loop-body.made.items c.in_ok-made.made.items _ c.loop-body-test.true c.body-item.is c.in_ok-made.ensures.made c.loop-body.invariant.1 c.loop-body.invariant.0, c.push_pauses.ensures.same ∙ c.loop-body.invariant.1)

pub push_items-loop-item-preserved : goal.push_items-loop-item-preserved
push_items-loop-item-preserved t c =
    (item_pauses (meanings c.args.names.now) (meanings c.loop-item.names) c.args.all.now c.loop-item.item-index c.item-item.result c.loop-item.made.items c.in_ok-made.made.items _ c.loop-item-test.true c.item-item.is c.in_ok-made.ensures.made c.loop-item.invariant.1 c.loop-item.invariant.0, c.push_item.ensures.same ∙ c.loop-item.invariant.1)

pub push_pauses-returns-in-Assign-clause-made : goal.push_pauses-returns-in-Assign-clause-made
push_pauses-returns-in-Assign-clause-made t c =
    let k = c.in-Assign in
    let told = assigned_pauses (meanings c.args.names.now) k.field-0 k.field-1 k.delay k.field-3 c.args.body.now k.is in
    let P : List ℕ → Type 0 = λ zs. IfOk c.paused.result (λ all. all.items ≡ c.args.made.items ++ zs) in
    subst P (sym told) c.paused.ensures

pub push_pauses-returns-in-Case-clause-made : goal.push_pauses-returns-in-Case-clause-made
push_pauses-returns-in-Case-clause-made t c =
    let k = c.in-Case in
    let scope = meanings c.args.names.now in
    let told = case_pauses scope k.at k.kind k.full k.parallel k.selector k.items c.args.body.now k.is in
    let P : List ℕ → Type 0 = λ zs. IfOk c.push_items.result (λ all. all.items ≡ c.args.made.items ++ zs) in
    subst P (ap (λ xs. delays_of (branches_steps (branch_row (map branch xs)) scope)) c.deref-in-Case.ensures.value ∙ sym told) c.push_items.ensures.made

pub push_pauses-returns-in-For-clause-made : goal.push_pauses-returns-in-For-clause-made
push_pauses-returns-in-For-clause-made t c =
    let k = c.in-For in
    let scope = meanings c.args.names.now in
    let told = for_pauses scope k.at k.index k.start k.condition k.stepped k.step k.body c.args.body.now k.is in
    let same : c.deref-in-For.result.now ≡ k.body.value = cc in
    let head : Head = record { at = k.at; index = identifier k.index; start = formula k.start; condition = formula k.condition; stepped = identifier k.stepped; step = formula k.step } in
    let P : List ℕ → Type 0 = λ zs. IfOk c.push_loop.result (λ all. all.items ≡ c.args.made.items ++ zs) in
    subst P (ap (λ s. delays_of (all_turns (steps (action s)) scope head)) same ∙ sym told) c.push_loop.ensures.made

pub push_pauses-returns-in-Block-clause-made : goal.push_pauses-returns-in-Block-clause-made
push_pauses-returns-in-Block-clause-made t c =
    let k = c.in-Block in
    let scope = meanings c.args.names.now in
    let told = block_pauses scope k.field-0 k.field-1 k.all c.args.body.now k.is in
    let P : List ℕ → Type 0 = λ zs. IfOk c.push_bodies.result (λ all. all.items ≡ c.args.made.items ++ zs) in
    subst P (ap (λ xs. delays_of (body_steps (action_row (map action xs)) scope)) c.deref-in-Block.ensures.value ∙ sym told) c.push_bodies.ensures.made
