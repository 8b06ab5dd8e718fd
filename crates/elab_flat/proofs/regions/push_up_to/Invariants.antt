use Rattle.std.proofs.Common.{◌≡◌, ◌++◌, length}
use Rattle.elab_walk.specs.Regions.{past, up_to}
use Rattle.elab_flat.proofs.regions.push_up_to.Given as goal

abbrev pub invariant-loop-first : goal.invariant-loop-first
invariant-loop-first l =
    (l.made.items ++ up_to l.at l.rest ≡ l.initial.made.items ++ up_to l.at l.regions)
    × (past l.at l.rest ≡ past l.at l.regions)

abbrev pub decreases-loop-first : goal.decreases-loop-first
decreases-loop-first l = length l.rest
