use Rattle.std.proofs.Common.{◌≡◌, ◌-◌, ◌++◌, ℤ, Option, map, drop}
use Rattle.rtl_tree.specs.TreeStmt.{action, action_row, branch, branch_row}
use Rattle.elab_body.specs.elab_scope.Names.{indexed, meanings}
use Rattle.elab_body.specs.Bodies.{body_steps, branches_steps, steps, turns}
use Rattle.elab_body.specs.Courses.{head_of}
use Rattle.elab_body.specs.Steps.{delays_of}
use Rattle.elab_parts.proofs.pauses.+pauses.Given as goal

abbrev pub invariant-push_bodies-loop-body : goal.invariant-push_bodies-loop-body
invariant-push_bodies-loop-body l =
    (l.made.items ++ delays_of (body_steps (action_row (map action (drop l.body-index l.all))) (meanings l.initial.names)) ≡ l.initial.made.items ++ delays_of (body_steps (action_row (map action l.all)) (meanings l.initial.names)))
    × (meanings l.names ≡ meanings l.initial.names)

abbrev pub invariant-push_items-loop-item : goal.invariant-push_items-loop-item
invariant-push_items-loop-item l =
    (l.made.items ++ delays_of (branches_steps (branch_row (map branch (drop l.item-index l.all))) (meanings l.initial.names)) ≡ l.initial.made.items ++ delays_of (branches_steps (branch_row (map branch l.all)) (meanings l.initial.names)))
    × (meanings l.names ≡ meanings l.initial.names)

abbrev pub invariant-push_turns-loop-turn : goal.invariant-push_turns-loop-turn
invariant-push_turns-loop-turn l =
    (l.made.items ++ delays_of (turns (steps (action l.body)) (meanings l.initial.names) (head_of l.head) (4096 - l._turn) l.number) ≡ l.initial.made.items ++ delays_of (turns (steps (action l.body)) (meanings l.initial.names) (head_of l.head) 4096 l.first))
    × ((number : Option ℤ) → indexed (meanings l.names) l.head.index.now.text number ≡ indexed (meanings l.initial.names) l.head.index.now.text number)
