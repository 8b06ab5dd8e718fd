use Rattle.std.proofs.Common.{◌≡◌, ◌++◌, map, drop}
use Rattle.elab_walk.specs.Placements.{instance_of}
use Rattle.elab_walk.specs.Trails.{placement}
use Rattle.elab_flat.proofs.flat.instances_of.Given as goal

abbrev pub invariant-loop-at : goal.invariant-loop-at
invariant-loop-at l =
    l.made.items ++ map instance_of (map placement (drop l.at-index l.placements)) ≡ map instance_of (map placement l.placements)
