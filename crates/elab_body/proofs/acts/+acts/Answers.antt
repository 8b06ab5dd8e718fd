use Rattle.std.proofs.Common.{◌≡◌, ◌∙◌, ◌+◌, ◌-◌, ◌++◌, zero, suc, map, Ok, Err, SFits, ap, arith, append-nil, refl, rules, sym, to_z, w64}
use Rattle.std.proofs.lemmas.Grind.{common_steps}
use Rattle.std.proofs.lemmas.Int.{to_z-of_z}
use Rattle.rtl_tree.specs.TreeExpr.{formula}
use Rattle.rtl_tree.specs.TreeStmt.{action}
use Rattle.rtl_flat.specs.Process.{action as made_action}
use Rattle.elab_nodes.specs.elab_scope.Names.{meanings}
use Rattle.elab_nodes.specs.elab_scope.Trees.{tree_of}
use Rattle.elab_body.specs.Acts.{act_turns, acts}
use Rattle.elab_body.specs.Bodies.{in_turn}
use Rattle.elab_body.specs.Courses.{head_of}
use Rattle.elab_body.proofs.Acting.{act_done, act_goes, act_stops, block_acts, case_acts}
use Rattle.elab_body.proofs.Indices.{indexed_restored, indexed_turned}
use Rattle.elab_body.proofs.Making.{case_made, item_pushed}
use Rattle.elab_body.proofs.acts.+acts.Goals as goal

pub push_item-returns-in_ok-push-in-Labelled-clause-made : goal.push_item-returns-in_ok-push-in-Labelled-clause-made
push_item-returns-in_ok-push-in-Labelled-clause-made t c =
    item_pushed c.args.made.items c.push.new.self.items c.in_ok-labels-in-Labelled.labels c.in_ok-body-in-Labelled.body c.args.site.file c.args.site.base (meanings c.args.names.now) c.args.context c.args.item.now c.in-Labelled.all c.in-Labelled.body c.in_ok-push-in-Labelled.ensures.items
    (c.in_ok-labels-in-Labelled.ensures ∙ ap (λ xs. map (λ label. tree_of c.args.site.file c.args.site.base (meanings c.args.names.now) label c.args.context) (map formula xs)) c.deref.ensures.value)
    c.in_ok-body-in-Labelled.ensures.made c.in-Labelled.is

pub push_loop-returns-clause-same : goal.push_loop-returns-clause-same
push_loop-returns-clause-same t c =
    indexed_restored (meanings c.args.names.now) (meanings c.push_turns-made.new.names) (meanings c.set_index.new.self) c.args.head.index.now.text c.get-before.result c.push_turns-made.ensures.same c.get-before.ensures c.set_index.ensures

pub push_turns-returns-then-not-goes_on-clause-made : goal.push_turns-returns-then-not-goes_on-clause-made
push_turns-returns-then-not-goes_on-clause-made t c =
    let scope = meanings c.args.names.now in
    let in_it : meanings c.set_index.new.self ≡ in_turn scope (head_of c.args.head) (to_z w64 c.loop-turn.number-bits) = c.set_index.ensures ∙ c.loop-turn.invariant.1 _ in
    sym (act_stops (map made_action c.loop-turn.made.items) (acts c.args.site.file c.args.site.base (action c.args.body.now)) scope (meanings c.set_index.new.self) (head_of c.args.head) (4096 - c.loop-turn._turn) (to_z w64 c.loop-turn.number-bits) c.constant-condition.result in_it c.constant-condition.ensures (sym c.goes_on.ensures ∙ c.if-not-goes_on.true))
    ∙ c.loop-turn.invariant.0
    ∙ ap (λ n. map made_action c.args.made.items ++ act_turns (acts c.args.site.file c.args.site.base (action c.args.body.now)) scope (head_of c.args.head) 4096 n) (to_z-of_z w64 c.args.first c.ranges.first)

pub push_turns-returns-then-not-goes_on-clause-same : goal.push_turns-returns-then-not-goes_on-clause-same
push_turns-returns-then-not-goes_on-clause-same t c =
    indexed_turned (meanings c.args.names.now) (meanings c.loop-turn.names) (meanings c.set_index.new.self) (meanings c.set_index.new.self) c.args.head.index.now.text _ c.loop-turn.invariant.1 c.set_index.ensures refl

pub push_turns-returns-in_err-made-clause-same : goal.push_turns-returns-in_err-made-clause-same
push_turns-returns-in_err-made-clause-same t c =
    indexed_turned (meanings c.args.names.now) (meanings c.loop-turn.names) (meanings c.set_index.new.self) (meanings c.push_acts.new.names) c.args.head.index.now.text _ c.loop-turn.invariant.1 c.set_index.ensures c.push_acts.ensures.same

pub push_turns-returns-in-Err-clause-made : goal.push_turns-returns-in-Err-clause-made
push_turns-returns-in-Err-clause-made t c =
    let scope = meanings c.args.names.now in
    let in_it : meanings c.set_index.new.self ≡ in_turn scope (head_of c.args.head) (to_z w64 c.loop-turn.number-bits) = c.set_index.ensures ∙ c.loop-turn.invariant.1 _ in
    let more : 4096 - c.loop-turn._turn ≡ suc (4096 - (c.loop-turn._turn + 1)) = omega arith in
    sym (append-nil (map made_action c.in_ok-made.made.items))
    ∙ sym (act_goes (map made_action c.loop-turn.made.items) (map made_action c.in_ok-made.made.items) (acts c.args.site.file c.args.site.base (action c.args.body.now)) scope (meanings c.set_index.new.self) (meanings c.push_acts.new.names) (head_of c.args.head) (4096 - c.loop-turn._turn) (4096 - (c.loop-turn._turn + 1)) (to_z w64 c.loop-turn.number-bits) c.constant-condition.result (Err c.in-Err.field-0) in_it c.push_acts.ensures.same more c.constant-condition.ensures (sym c.goes_on.ensures ∙ c.if-not-goes_on.false) c.in_ok-made.ensures.made (sym c.in-Err.is ∙ c.constant.ensures))
    ∙ c.loop-turn.invariant.0
    ∙ ap (λ n. map made_action c.args.made.items ++ act_turns (acts c.args.site.file c.args.site.base (action c.args.body.now)) scope (head_of c.args.head) 4096 n) (to_z-of_z w64 c.args.first c.ranges.first)

pub push_turns-returns-in-Err-clause-same : goal.push_turns-returns-in-Err-clause-same
push_turns-returns-in-Err-clause-same t c =
    indexed_turned (meanings c.args.names.now) (meanings c.loop-turn.names) (meanings c.set_index.new.self) (meanings c.push_acts.new.names) c.args.head.index.now.text _ c.loop-turn.invariant.1 c.set_index.ensures c.push_acts.ensures.same

pub push_turns-loop-turn-preserved : goal.push_turns-loop-turn-preserved
push_turns-loop-turn-preserved t c =
    let scope = meanings c.args.names.now in
    let in_it : meanings c.set_index.new.self ≡ in_turn scope (head_of c.args.head) (to_z w64 c.loop-turn.number-bits) = c.set_index.ensures ∙ c.loop-turn.invariant.1 _ in
    let more : 4096 - c.loop-turn._turn ≡ suc (4096 - (c.loop-turn._turn + 1)) = omega arith in
    let fits : SFits w64 c.in-Ok.next = search rules in (
      ap (λ n. map made_action c.in_ok-made.made.items ++ act_turns (acts c.args.site.file c.args.site.base (action c.args.body.now)) scope (head_of c.args.head) (4096 - (c.loop-turn._turn + 1)) n) (to_z-of_z w64 c.in-Ok.next fits)
          ∙ sym (act_goes (map made_action c.loop-turn.made.items) (map made_action c.in_ok-made.made.items) (acts c.args.site.file c.args.site.base (action c.args.body.now)) scope (meanings c.set_index.new.self) (meanings c.push_acts.new.names) (head_of c.args.head) (4096 - c.loop-turn._turn) (4096 - (c.loop-turn._turn + 1)) (to_z w64 c.loop-turn.number-bits) c.constant-condition.result (Ok c.in-Ok.next) in_it c.push_acts.ensures.same more c.constant-condition.ensures (sym c.goes_on.ensures ∙ c.if-not-goes_on.false) c.in_ok-made.ensures.made (sym c.in-Ok.is ∙ c.constant.ensures))
          ∙ c.loop-turn.invariant.0,
      indexed_turned (meanings c.args.names.now) (meanings c.loop-turn.names) (meanings c.set_index.new.self) (meanings c.push_acts.new.names) c.args.head.index.now.text _ c.loop-turn.invariant.1 c.set_index.ensures c.push_acts.ensures.same,
    )

pub push_turns-returns-clause-made : goal.push_turns-returns-clause-made
push_turns-returns-clause-made t c =
    let scope = meanings c.args.names.now in
    let none : 4096 - c.loop-turn._turn ≡ zero = omega arith in
    sym (act_done (map made_action c.loop-turn.made.items) (acts c.args.site.file c.args.site.base (action c.args.body.now)) scope (head_of c.args.head) (4096 - c.loop-turn._turn) (to_z w64 c.loop-turn.number-bits) none)
    ∙ c.loop-turn.invariant.0
    ∙ ap (λ n. map made_action c.args.made.items ++ act_turns (acts c.args.site.file c.args.site.base (action c.args.body.now)) scope (head_of c.args.head) 4096 n) (to_z-of_z w64 c.args.first c.ranges.first)

pub push_acts-returns-in-Block-clause-made : goal.push_acts-returns-in-Block-clause-made
push_acts-returns-in-Block-clause-made t c =
    let k = c.in-Block in
    let told = block_acts c.args.site.file c.args.site.base (meanings c.args.names.now) k.field-0 k.field-1 k.all c.args.body.now k.is in
    grind (arith, common_steps, told)

pub push_acts-returns-in-Case-clause-made : goal.push_acts-returns-in-Case-clause-made
push_acts-returns-in-Case-clause-made t c =
    let k = c.in-Case in
    let told = case_acts c.args.site.file c.args.site.base (meanings c.args.names.now) k.at k.kind k.full k.parallel k.selector k.items c.args.body.now k.is in
    grind (arith, common_steps, told)

pub push_case-returns-clause-made : goal.push_case-returns-clause-made
push_case-returns-clause-made t c =
    let act = case_made c.kind_of.result c.args.full c.args.parallel c.into_inner.result c.in_ok-items_made.items_made c.in_ok-fallback.fallback c.spot_at.result in
    grind (arith, common_steps, act)
