use Rattle.std.proofs.Common.{◌≡◌, ◌-◌, ℤ, Option, map, drop}
use Rattle.rtl_tree.specs.TreeStmt.{action, action_row, branch, branch_row}
use Rattle.elab_nodes.specs.elab_scope.Names.{indexed, meanings}
use Rattle.elab_body.specs.Bodies.{body_steps, branches_steps, steps, turns}
use Rattle.elab_body.specs.Courses.{course, head_of}
use Rattle.elab_body.specs.Steps.{passed}
use Rattle.elab_body.proofs.body.+judge_body.Given as goal

abbrev pub invariant-judge_bodies-loop-body : goal.invariant-judge_bodies-loop-body
invariant-judge_bodies-loop-body l =
    (passed (course l.so_far) (body_steps (action_row (map action (drop l.body-index l.all))) (meanings l.initial.names)) ≡ passed (course l.initial.so_far) (body_steps (action_row (map action l.all)) (meanings l.initial.names)))
    × (meanings l.names ≡ meanings l.initial.names)

abbrev pub invariant-judge_items-loop-item : goal.invariant-judge_items-loop-item
invariant-judge_items-loop-item l =
    (passed (course l.so_far) (branches_steps (branch_row (map branch (drop l.item-index l.all))) (meanings l.initial.names)) ≡ passed (course l.initial.so_far) (branches_steps (branch_row (map branch l.all)) (meanings l.initial.names)))
    × (meanings l.names ≡ meanings l.initial.names)

abbrev pub invariant-judge_turns-loop-turn : goal.invariant-judge_turns-loop-turn
invariant-judge_turns-loop-turn l =
    (passed (course l.so_far) (turns (steps (action l.body)) (meanings l.initial.names) (head_of l.head) (4096 - l._turn) l.number) ≡ passed (course l.initial.so_far) (turns (steps (action l.body)) (meanings l.initial.names) (head_of l.head) 4096 l.first))
    × ((number : Option ℤ) → indexed (meanings l.names) l.head.index.now.text number ≡ indexed (meanings l.initial.names) l.head.index.now.text number)
