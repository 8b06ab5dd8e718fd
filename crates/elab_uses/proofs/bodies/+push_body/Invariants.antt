use Rattle.std.proofs.Common.{◌≡◌, ◌-◌, ◌++◌, ℤ, Option, map, drop}
use Rattle.rtl_tree.specs.TreeStmt.{action, action_row, branch, branch_row}
use Rattle.elab_body.specs.Courses.{head_of}
use Rattle.elab_standard.specs.Scopes.{scopes, turned}
use Rattle.elab_uses.specs.Bodies.{actions_uses, body_uses, branches_uses, notes_in, turn_uses}
use Rattle.elab_uses.proofs.bodies.+push_body.Given as goal

abbrev pub invariant-push_bodies-loop-body : goal.invariant-push_bodies-loop-body
invariant-push_bodies-loop-body l =
    (l.made.items ++ notes_in l.home (actions_uses (action_row (map action (drop l.body-index l.all))) (scopes l.initial.scopes)) ≡ l.initial.made.items ++ notes_in l.home (actions_uses (action_row (map action l.all)) (scopes l.initial.scopes)))
    × (scopes l.scopes ≡ scopes l.initial.scopes)

abbrev pub invariant-push_items-loop-item : goal.invariant-push_items-loop-item
invariant-push_items-loop-item l =
    (l.made.items ++ notes_in l.home (branches_uses (branch_row (map branch (drop l.item-index l.all))) (scopes l.initial.scopes)) ≡ l.initial.made.items ++ notes_in l.home (branches_uses (branch_row (map branch l.all)) (scopes l.initial.scopes)))
    × (scopes l.scopes ≡ scopes l.initial.scopes)

abbrev pub invariant-push_turns-loop-turn : goal.invariant-push_turns-loop-turn
invariant-push_turns-loop-turn l =
    (l.made.items ++ notes_in l.home (turn_uses (body_uses (action l.body)) (scopes l.initial.scopes) (head_of l.head) (4096 - l._turn) l.number) ≡ l.initial.made.items ++ notes_in l.home (turn_uses (body_uses (action l.body)) (scopes l.initial.scopes) (head_of l.head) 4096 l.first))
    × ((number : Option ℤ) → turned (scopes l.scopes) l.head.index.now.text number ≡ turned (scopes l.initial.scopes) l.head.index.now.text number)
