use Rattle.std.proofs.Common.{◌≡◌, ◌≤◌, ◌++◌, reverse, length, take}
use Rattle.text_survey.proofs.machine.put.Given as goal

abbrev pub invariant-loop-left : goal.invariant-loop-left
invariant-loop-left l = (take l.left l.tasks ++ reverse l.stack.items ≡ l.tasks ++ reverse l.initial.stack.items) × (l.left ≤ length l.tasks)

abbrev pub decreases-loop-left : goal.decreases-loop-left
decreases-loop-left l = l.left
