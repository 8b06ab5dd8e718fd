use Rattle.std.proofs.Common.{◌≡◌, ◌∙◌, ◌+◌, ◌-◌, ◌++◌, ◌∷◌, [], List, None, Some, zero, suc, map, OnOk, SFits, ap, arith, append-nil, refl, rules, subst, sym, to_z, w64}
use Rattle.std.proofs.lemmas.Int.{to_z-of_z}
use Rattle.rtl_flat.specs.declared.note.Note.{Note}
use Rattle.rtl_tree.specs.declared.tree.stmt.CaseItem.{CaseItem}
use Rattle.rtl_tree.specs.TreeExpr.{formula}
use Rattle.rtl_tree.specs.TreeStmt.{action, action_row, branch, branch_row}
use Rattle.elab_body.specs.Courses.{head_of}
use Rattle.elab_standard.specs.Scopes.{scopes}
use Rattle.elab_standard.specs.Uses.{Case, Test, use_notes}
use Rattle.elab_uses.specs.Bodies.{Uses, actions_uses, body_uses, branch_item_uses, branches_uses, in_turn, notes_in, turn_uses}
use Rattle.elab_uses.proofs.Restoring.{turned_more, turned_restored}
use Rattle.elab_uses.proofs.Rows.{more_noted, then_noted}
use Rattle.elab_uses.proofs.Turning.{last_noted, once_noted, turn_noted}
use Rattle.elab_uses.proofs.Views.{block_uses, case_uses}
use Rattle.elab_uses.proofs.bodies.+push_body.Goals as goal

pub push_bodies-loop-body-preserved : goal.push_bodies-loop-body-preserved
push_bodies-loop-body-preserved t c =
    let s = scopes c.args.scopes.now in
    let told = ◌∙◌ {A = List Note} c.in_ok-push_body.ensures.made (ap (λ t. c.loop-body.made.items ++ notes_in c.args.home (body_uses (action c.body-item.result) t)) c.loop-body.invariant.1) in
    (more_noted c.args.home (λ one. body_uses (action one) s) (λ all. actions_uses (action_row (map action all)) s) (λ one all. refl) c.loop-body.made.items _ c.args.all.now c.loop-body.body-index c.body-item.result _ c.loop-body-test.true c.body-item.is told c.loop-body.invariant.0, c.push_body.ensures.same ∙ c.loop-body.invariant.1)

pub push_items-loop-item-preserved : goal.push_items-loop-item-preserved
push_items-loop-item-preserved t c =
    let s = scopes c.args.scopes.now in
    let told = ◌∙◌ {A = List Note} c.in_ok-push_item.ensures.made (ap (λ t. c.loop-item.made.items ++ notes_in c.args.home (branch_item_uses (branch c.item-item.result) t)) c.loop-item.invariant.1) in
    (more_noted c.args.home (λ one. branch_item_uses (branch one) s) (λ all. branches_uses (branch_row (map branch all)) s) (λ one all. refl) c.loop-item.made.items _ c.args.all.now c.loop-item.item-index c.item-item.result _ c.loop-item-test.true c.item-item.is told c.loop-item.invariant.0, c.push_item.ensures.same ∙ c.loop-item.invariant.1)

pub push_loop-returns-clause-same : goal.push_loop-returns-clause-same
push_loop-returns-clause-same t c =
    turned_restored (scopes c.args.scopes.now) (scopes c.push_turns-done.new.scopes) (scopes c.set_index.new.self) c.args.head.index.now.text c.get-before.result c.push_turns-done.ensures.same c.get-before.ensures c.set_index.ensures

pub push_body-returns-in_ok-push_labels-in-Case-clause-made : goal.push_body-returns-in_ok-push_labels-in-Case-clause-made
push_body-returns-in_ok-push_labels-in-Case-clause-made t c =
    let k = c.in-Case in
    let s = scopes c.args.scopes.now in
    let home = c.args.home in
    let old = c.args.made.now.items in
    let middle = c.push_labels.new.made.items in
    let one : List CaseItem → Uses = λ xs. (s, Case k.at (formula k.selector) (branch_row (map branch xs))) ∷ [] in
    let row : List CaseItem → Uses = λ xs. branches_uses (branch_row (map branch xs)) s in
    let labelled : middle ≡ old ++ notes_in home (one k.items.items) =
    ◌∙◌ {A = List Note} {b = old ++ notes_in home (one c.deref-in-Case.result.now)} c.in_ok-push_labels-in-Case.ensures (ap (λ xs. old ++ notes_in home (one xs)) c.deref-in-Case.ensures.value) in
    let told = case_uses s k.at k.kind k.full k.parallel k.selector k.items c.args.body.now k.is in
    let P : List Note → Type 0 = λ zs. OnOk c.push_items.result (c.push_items.new.made.items ≡ zs) in
    subst P
    (◌∙◌ {A = List Note} {b = middle ++ notes_in home (row k.items.items)} (ap (λ xs. middle ++ notes_in home (row xs)) c.deref-in-Case-2.ensures.value)
    (then_noted home old middle (one k.items.items) (row k.items.items) labelled
    ∙ ap (λ us. old ++ notes_in home us) (sym told)))
    c.push_items.ensures.made

pub push_body-returns-in-Block-clause-made : goal.push_body-returns-in-Block-clause-made
push_body-returns-in-Block-clause-made t c =
    let k = c.in-Block in
    let s = scopes c.args.scopes.now in
    let old = c.args.made.now.items in
    let told = block_uses s k.field-0 k.field-1 k.all c.args.body.now k.is in
    let P : List Note → Type 0 = λ zs. OnOk c.push_bodies.result (c.push_bodies.new.made.items ≡ zs) in
    subst P
    (ap (λ xs. old ++ notes_in c.args.home (actions_uses (action_row (map action xs)) s)) c.deref-in-Block.ensures.value
    ∙ ap (λ us. old ++ notes_in c.args.home us) (sym told))
    c.push_bodies.ensures.made

pub push_turn-returns-clause-made : goal.push_turn-returns-clause-made
push_turn-returns-clause-made t c =
    once_noted c.args.home c.args.made.now.items c.push_use.new.made.items c.push_body.new.made.items c.push_use-2.new.made.items (body_uses (action c.args.body.now)) (scopes c.args.scopes.now) (scopes c.push_body.new.scopes) (head_of c.args.head) c.constant.result c.in_ok-push_use.ensures c.in_ok-push_body.ensures.made c.in_ok-push_use-2.ensures c.push_body.ensures.same c.constant.ensures (sym c.goes_on.ensures ∙ c.if-not-goes_on.false)

pub push_turns-returns-in-None-clause-made : goal.push_turns-returns-in-None-clause-made
push_turns-returns-in-None-clause-made t c =
    let s = scopes c.args.scopes.now in
    let head = head_of c.args.head in
    let body = body_uses (action c.args.body.now) in
    let n = to_z w64 c.loop-turn.number-bits in
    let in_it : scopes c.set_index.new.self ≡ in_turn s head n = c.set_index.ensures ∙ c.loop-turn.invariant.1 _ in
    let more : 4096 - c.loop-turn._turn ≡ suc (4096 - (c.loop-turn._turn + 1)) = omega arith in
    sym (append-nil c.push_turn.new.made.items)
    ∙ sym (turn_noted c.args.home c.loop-turn.made.items c.push_turn.new.made.items body s (scopes c.set_index.new.self) head (4096 - c.loop-turn._turn) (4096 - (c.loop-turn._turn + 1)) n None in_it more c.in_ok-next.ensures.made (sym c.in-None.is ∙ c.in_ok-next.ensures.next))
    ∙ c.loop-turn.invariant.0
    ∙ ap (λ n. c.args.made.now.items ++ notes_in c.args.home (turn_uses body s head 4096 n)) (to_z-of_z w64 c.args.first c.ranges.first)

pub push_turns-loop-turn-preserved : goal.push_turns-loop-turn-preserved
push_turns-loop-turn-preserved t c =
    let s = scopes c.args.scopes.now in
    let head = head_of c.args.head in
    let body = body_uses (action c.args.body.now) in
    let n = to_z w64 c.loop-turn.number-bits in
    let in_it : scopes c.set_index.new.self ≡ in_turn s head n = c.set_index.ensures ∙ c.loop-turn.invariant.1 _ in
    let more : 4096 - c.loop-turn._turn ≡ suc (4096 - (c.loop-turn._turn + 1)) = omega arith in
    let fits : SFits w64 c.in-Some.next = search rules in (
      ap (λ n. c.push_turn.new.made.items ++ notes_in c.args.home (turn_uses body s head (4096 - (c.loop-turn._turn + 1)) n)) (to_z-of_z w64 c.in-Some.next fits)
          ∙ sym (turn_noted c.args.home c.loop-turn.made.items c.push_turn.new.made.items body s (scopes c.set_index.new.self) head (4096 - c.loop-turn._turn) (4096 - (c.loop-turn._turn + 1)) n (Some c.in-Some.next) in_it more c.in_ok-next.ensures.made (sym c.in-Some.is ∙ c.in_ok-next.ensures.next))
          ∙ c.loop-turn.invariant.0,
      turned_more s (scopes c.loop-turn.scopes) (scopes c.set_index.new.self) (scopes c.push_turn.new.scopes) c.args.head.index.now.text _ c.loop-turn.invariant.1 c.set_index.ensures c.push_turn.ensures.same,
    )

pub push_turns-returns-clause-made : goal.push_turns-returns-clause-made
push_turns-returns-clause-made t c =
    let s = scopes c.args.scopes.now in
    let head = head_of c.args.head in
    let body = body_uses (action c.args.body.now) in
    let n = to_z w64 c.loop-turn.number-bits in
    let last = scopes c.set_index-2.new.self in
    let in_it : last ≡ in_turn s head n = c.set_index-2.ensures ∙ c.loop-turn.invariant.1 _ in
    let none : 4096 - c.loop-turn._turn ≡ zero = omega arith in
    let told = c.loop-turn.made.items ++ use_notes c.args.home last (Test head.condition) in
    let P : List Note → Type 0 = λ zs. OnOk c.push_use.result (c.push_use.new.made.items ≡ zs) in
    subst P
    (sym (last_noted c.args.home c.loop-turn.made.items told body s last head (4096 - c.loop-turn._turn) n in_it none refl)
    ∙ c.loop-turn.invariant.0
    ∙ ap (λ n. c.args.made.now.items ++ notes_in c.args.home (turn_uses body s head 4096 n)) (to_z-of_z w64 c.args.first c.ranges.first))
    c.push_use.ensures
