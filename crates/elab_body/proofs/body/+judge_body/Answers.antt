use Rattle.std.proofs.Common.{◌≡◌, ◌∙◌, ◌+◌, ◌-◌, zero, suc, Ok, Err, SFits, ap, arith, refl, rules, sym, to_z, w64}
use Rattle.std.proofs.lemmas.Int.{to_z-of_z}
use Rattle.std.proofs.lemmas.Grind.{common_steps}
use Rattle.rtl_tree.specs.TreeStmt.{action}
use Rattle.elab_nodes.specs.elab_scope.Names.{meanings}
use Rattle.elab_body.specs.Bodies.{in_turn, steps, turns}
use Rattle.elab_body.specs.Courses.{course, ended, head_of}
use Rattle.elab_body.specs.Steps.{passed}
use Rattle.elab_body.proofs.Counting.{turn_ended}
use Rattle.elab_body.proofs.Deciding.{block_passed, case_passed, for_passed}
use Rattle.elab_body.proofs.Indices.{indexed_restored, indexed_turned}
use Rattle.elab_body.proofs.Passing.{passed_body, passed_item, passed_over}
use Rattle.elab_body.proofs.Turning.{turn_goes, turn_last, turn_stops}
use Rattle.elab_body.proofs.body.+judge_body.Goals as goal

pub judge_body-returns-in-Case-clause-told : goal.judge_body-returns-in-Case-clause-told
judge_body-returns-in-Case-clause-told t c =
    let k = c.in-Case in
    let told = case_passed (course c.args.so_far) (meanings c.args.names.now) k.at k.kind k.full k.parallel k.selector k.items c.args.body.now k.is in
    grind (arith, common_steps, told)

pub judge_body-returns-in-Block-clause-told : goal.judge_body-returns-in-Block-clause-told
judge_body-returns-in-Block-clause-told t c =
    let k = c.in-Block in
    let told = block_passed (course c.args.so_far) (meanings c.args.names.now) k.at k.field-1 k.body c.args.body.now k.is in
    grind (arith, common_steps, told)

pub judge_body-returns-in-For-clause-told : goal.judge_body-returns-in-For-clause-told
judge_body-returns-in-For-clause-told t c =
    let k = c.in-For in
    let told = for_passed (course c.args.so_far) (meanings c.args.names.now) k.at k.index k.start k.condition k.stepped k.step k.body c.args.body.now k.is in
    grind (arith, common_steps, told)

pub judge_loop-returns-clause-same : goal.judge_loop-returns-clause-same
judge_loop-returns-clause-same t c =
    indexed_restored (meanings c.args.names.now) (meanings c.judge_turns-so_far.new.names) (meanings c.set_index.new.self) c.args.head.index.now.text c.get-before.result c.judge_turns-so_far.ensures.same c.get-before.ensures c.set_index.ensures

pub judge_bodies-loop-body-preserved : goal.judge_bodies-loop-body-preserved
judge_bodies-loop-body-preserved t c =
    (passed_body (course c.loop-body.so_far) (course c.judge_body-so_far.result) (meanings c.args.names.now) (meanings c.loop-body.names) c.args.all.now c.loop-body.body-index c.body-item.result _ c.loop-body-test.true c.body-item.is c.judge_body-so_far.ensures.told c.loop-body.invariant.1 c.loop-body.invariant.0, c.judge_body-so_far.ensures.same ∙ c.loop-body.invariant.1)

pub judge_items-loop-item-preserved : goal.judge_items-loop-item-preserved
judge_items-loop-item-preserved t c =
    (passed_item (course c.loop-item.so_far) (course c.judge_item-so_far.result) (meanings c.args.names.now) (meanings c.loop-item.names) c.args.all.now c.loop-item.item-index c.item-item.result _ c.loop-item-test.true c.item-item.is c.judge_item-so_far.ensures.told c.loop-item.invariant.1 c.loop-item.invariant.0, c.judge_item-so_far.ensures.same ∙ c.loop-item.invariant.1)

pub judge_turns-returns-then-not-goes_on-clause-told : goal.judge_turns-returns-then-not-goes_on-clause-told
judge_turns-returns-then-not-goes_on-clause-told t c =
    let scope = meanings c.args.names.now in
    let in_it : meanings c.set_index.new.self ≡ in_turn scope (head_of c.args.head) (to_z w64 c.loop-turn.number-bits) = c.set_index.ensures ∙ c.loop-turn.invariant.1 _ in
    c.number.ensures
    ∙ sym (turn_stops (course c.loop-turn.so_far) (steps (action c.args.body.now)) scope (meanings c.set_index.new.self) (head_of c.args.head) (4096 - c.loop-turn._turn) (to_z w64 c.loop-turn.number-bits) c.constant-condition.result in_it c.constant-condition.ensures (sym c.goes_on.ensures ∙ c.if-not-goes_on.true))
    ∙ c.loop-turn.invariant.0
    ∙ ap (λ n. passed (course c.args.so_far) (turns (steps (action c.args.body.now)) scope (head_of c.args.head) 4096 n)) (to_z-of_z w64 c.args.first c.ranges.first)

pub judge_turns-returns-then-not-goes_on-clause-same : goal.judge_turns-returns-then-not-goes_on-clause-same
judge_turns-returns-then-not-goes_on-clause-same t c =
    indexed_turned (meanings c.args.names.now) (meanings c.loop-turn.names) (meanings c.set_index.new.self) (meanings c.set_index.new.self) c.args.head.index.now.text _ c.loop-turn.invariant.1 c.set_index.ensures refl

pub judge_turns-loop-turn-preserved : goal.judge_turns-loop-turn-preserved
judge_turns-loop-turn-preserved t c =
    let scope = meanings c.args.names.now in
    let in_it : meanings c.set_index.new.self ≡ in_turn scope (head_of c.args.head) (to_z w64 c.loop-turn.number-bits) = c.set_index.ensures ∙ c.loop-turn.invariant.1 _ in
    let more : 4096 - c.loop-turn._turn ≡ suc (4096 - (c.loop-turn._turn + 1)) = omega arith in
    let fits : SFits w64 c.in-Ok.next = search rules in (
      ap (λ n. passed (course c.judge_turn-so_far.result) (turns (steps (action c.args.body.now)) scope (head_of c.args.head) (4096 - (c.loop-turn._turn + 1)) n)) (to_z-of_z w64 c.in-Ok.next fits)
          ∙ sym (turn_goes (course c.loop-turn.so_far) (course c.judge_turn-so_far.result) (steps (action c.args.body.now)) scope (meanings c.set_index.new.self) (meanings c.judge_turn-so_far.new.names) (head_of c.args.head) (4096 - c.loop-turn._turn) (4096 - (c.loop-turn._turn + 1)) (to_z w64 c.loop-turn.number-bits) c.constant-condition.result (Ok c.in-Ok.next) in_it c.judge_turn-so_far.ensures.same more c.constant-condition.ensures (sym c.goes_on.ensures ∙ c.if-not-goes_on.false) c.judge_turn-so_far.ensures.told (sym c.in-Ok.is ∙ c.constant.ensures))
          ∙ c.loop-turn.invariant.0,
      indexed_turned (meanings c.args.names.now) (meanings c.loop-turn.names) (meanings c.set_index.new.self) (meanings c.judge_turn-so_far.new.names) c.args.head.index.now.text _ c.loop-turn.invariant.1 c.set_index.ensures c.judge_turn-so_far.ensures.same,
    )

pub judge_turns-returns-in-Err-clause-told : goal.judge_turns-returns-in-Err-clause-told
judge_turns-returns-in-Err-clause-told t c =
    let scope = meanings c.args.names.now in
    let in_it : meanings c.set_index.new.self ≡ in_turn scope (head_of c.args.head) (to_z w64 c.loop-turn.number-bits) = c.set_index.ensures ∙ c.loop-turn.invariant.1 _ in
    let more : 4096 - c.loop-turn._turn ≡ suc (4096 - (c.loop-turn._turn + 1)) = omega arith in
    c.number-in-Err.ensures
    ∙ sym (turn_goes (course c.loop-turn.so_far) (course c.judge_turn-so_far.result) (steps (action c.args.body.now)) scope (meanings c.set_index.new.self) (meanings c.judge_turn-so_far.new.names) (head_of c.args.head) (4096 - c.loop-turn._turn) (4096 - (c.loop-turn._turn + 1)) (to_z w64 c.loop-turn.number-bits) c.constant-condition.result (Err c.in-Err.cause) in_it c.judge_turn-so_far.ensures.same more c.constant-condition.ensures (sym c.goes_on.ensures ∙ c.if-not-goes_on.false) c.judge_turn-so_far.ensures.told (sym c.in-Err.is ∙ c.constant.ensures))
    ∙ c.loop-turn.invariant.0
    ∙ ap (λ n. passed (course c.args.so_far) (turns (steps (action c.args.body.now)) scope (head_of c.args.head) 4096 n)) (to_z-of_z w64 c.args.first c.ranges.first)

pub judge_turns-returns-in-Err-clause-same : goal.judge_turns-returns-in-Err-clause-same
judge_turns-returns-in-Err-clause-same t c =
    indexed_turned (meanings c.args.names.now) (meanings c.loop-turn.names) (meanings c.set_index.new.self) (meanings c.judge_turn-so_far.new.names) c.args.head.index.now.text _ c.loop-turn.invariant.1 c.set_index.ensures c.judge_turn-so_far.ensures.same

pub judge_turns-returns-then-goes_on-clause-told : goal.judge_turns-returns-then-goes_on-clause-told
judge_turns-returns-then-goes_on-clause-told t c =
    let scope = meanings c.args.names.now in
    let in_it : meanings c.set_index-2.new.self ≡ in_turn scope (head_of c.args.head) (to_z w64 c.loop-turn.number-bits) = c.set_index-2.ensures ∙ c.loop-turn.invariant.1 _ in
    let none : 4096 - c.loop-turn._turn ≡ zero = omega arith in
    c.too_long.ensures
    ∙ sym (turn_last (course c.loop-turn.so_far) (steps (action c.args.body.now)) scope (meanings c.set_index-2.new.self) (head_of c.args.head) (4096 - c.loop-turn._turn) (to_z w64 c.loop-turn.number-bits) c.constant-condition-2.result in_it none c.constant-condition-2.ensures (sym c.goes_on-2.ensures ∙ c.if-goes_on.true))
    ∙ c.loop-turn.invariant.0
    ∙ ap (λ n. passed (course c.args.so_far) (turns (steps (action c.args.body.now)) scope (head_of c.args.head) 4096 n)) (to_z-of_z w64 c.args.first c.ranges.first)

pub judge_turns-returns-then-goes_on-clause-same : goal.judge_turns-returns-then-goes_on-clause-same
judge_turns-returns-then-goes_on-clause-same t c =
    indexed_turned (meanings c.args.names.now) (meanings c.loop-turn.names) (meanings c.set_index-2.new.self) (meanings c.set_index-2.new.self) c.args.head.index.now.text _ c.loop-turn.invariant.1 c.set_index-2.ensures refl

pub judge_turns-returns-else-goes_on-clause-told : goal.judge_turns-returns-else-goes_on-clause-told
judge_turns-returns-else-goes_on-clause-told t c =
    let scope = meanings c.args.names.now in
    let in_it : meanings c.set_index-2.new.self ≡ in_turn scope (head_of c.args.head) (to_z w64 c.loop-turn.number-bits) = c.set_index-2.ensures ∙ c.loop-turn.invariant.1 _ in
    c.number-else-goes_on.ensures
    ∙ sym (turn_stops (course c.loop-turn.so_far) (steps (action c.args.body.now)) scope (meanings c.set_index-2.new.self) (head_of c.args.head) (4096 - c.loop-turn._turn) (to_z w64 c.loop-turn.number-bits) c.constant-condition-2.result in_it c.constant-condition-2.ensures (sym c.goes_on-2.ensures ∙ c.if-goes_on.false))
    ∙ c.loop-turn.invariant.0
    ∙ ap (λ n. passed (course c.args.so_far) (turns (steps (action c.args.body.now)) scope (head_of c.args.head) 4096 n)) (to_z-of_z w64 c.args.first c.ranges.first)

pub judge_turns-returns-else-goes_on-clause-same : goal.judge_turns-returns-else-goes_on-clause-same
judge_turns-returns-else-goes_on-clause-same t c =
    indexed_turned (meanings c.args.names.now) (meanings c.loop-turn.names) (meanings c.set_index-2.new.self) (meanings c.set_index-2.new.self) c.args.head.index.now.text _ c.loop-turn.invariant.1 c.set_index-2.ensures refl

pub judge_turns-returns-then-is_over-clause-told : goal.judge_turns-returns-then-is_over-clause-told
judge_turns-returns-then-is_over-clause-told t c =
    let scope = meanings c.args.names.now in
    sym (passed_over (course c.loop-turn.so_far) (turns (steps (action c.args.body.now)) scope (head_of c.args.head) (4096 - c.loop-turn._turn) (to_z w64 c.loop-turn.number-bits)) (sym c.is_over.ensures ∙ c.if-is_over.true))
    ∙ c.loop-turn.invariant.0
    ∙ ap (λ n. passed (course c.args.so_far) (turns (steps (action c.args.body.now)) scope (head_of c.args.head) 4096 n)) (to_z-of_z w64 c.args.first c.ranges.first)

pub judge_turn-returns-clause-told : goal.judge_turn-returns-clause-told
judge_turn-returns-clause-told t c =
    let body = steps (action c.args.body.now) (meanings c.args.names.now) in
    c.end_turn.ensures
    ∙ ap (λ p. ended c.args.so_far.filled c.args.at p) (c.judge_body-after.ensures.told ∙ ap (λ p. passed p body) c.begin_turn.ensures)
    ∙ turn_ended (course c.args.so_far) c.args.at body
