use Rattle.std.proofs.Common.{◌≡◌, ◌-◌, ◌++◌, ℤ, Option, map, drop}
use Rattle.rtl_tree.specs.TreeStmt.{action, action_row, branch, branch_row}
use Rattle.rtl_flat.specs.Process.{action as made_action}
use Rattle.elab_nodes.specs.elab_scope.Names.{indexed, meanings}
use Rattle.elab_body.specs.Acts.{act_turns, acts, body_acts, case_branches, fallback}
use Rattle.elab_body.specs.Courses.{head_of}
use Rattle.elab_body.specs.Made.{items_before}
use Rattle.elab_body.proofs.acts.+acts.Given as goal

abbrev pub invariant-push_bodies-loop-body : goal.invariant-push_bodies-loop-body
invariant-push_bodies-loop-body l =
    (map made_action l.made.items ++ body_acts l.site.file l.site.base (action_row (map action (drop l.body-index l.all))) (meanings l.initial.names) ≡ map made_action l.initial.made.items ++ body_acts l.site.file l.site.base (action_row (map action l.all)) (meanings l.initial.names))
    × (meanings l.names ≡ meanings l.initial.names)

abbrev pub invariant-items_of-loop-item : goal.invariant-items_of-loop-item
invariant-items_of-loop-item l =
    (items_before l.made.items (case_branches l.site.file l.site.base (branch_row (map branch (drop l.item-index l.all))) (meanings l.initial.names) l.context) ≡ case_branches l.site.file l.site.base (branch_row (map branch l.all)) (meanings l.initial.names) l.context)
    × (meanings l.names ≡ meanings l.initial.names)

abbrev pub invariant-fallback_of-loop-item : goal.invariant-fallback_of-loop-item
invariant-fallback_of-loop-item l =
    (fallback l.site.file l.site.base (branch_row (map branch (drop l.item-index l.all))) (meanings l.initial.names) ≡ fallback l.site.file l.site.base (branch_row (map branch l.all)) (meanings l.initial.names))
    × (meanings l.names ≡ meanings l.initial.names)

abbrev pub invariant-push_turns-loop-turn : goal.invariant-push_turns-loop-turn
invariant-push_turns-loop-turn l =
    (map made_action l.made.items ++ act_turns (acts l.site.file l.site.base (action l.body)) (meanings l.initial.names) (head_of l.head) (4096 - l._turn) l.number ≡ map made_action l.initial.made.items ++ act_turns (acts l.site.file l.site.base (action l.body)) (meanings l.initial.names) (head_of l.head) 4096 l.first)
    × ((number : Option ℤ) → indexed (meanings l.names) l.head.index.now.text number ≡ indexed (meanings l.initial.names) l.head.index.now.text number)
