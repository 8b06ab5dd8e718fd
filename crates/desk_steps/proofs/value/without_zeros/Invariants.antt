use Rattle.std.proofs.Common.{◌≡◌, length}
use Rattle.desk_steps.specs.Values.{without_zeros}
use Rattle.desk_steps.proofs.value.without_zeros.Given as goal

abbrev pub invariant-loop-others : goal.invariant-loop-others
invariant-loop-others l = without_zeros l.text ≡ without_zeros l.initial.text

abbrev pub decreases-loop-others : goal.decreases-loop-others
decreases-loop-others l = length l.text
