use Rattle.std.specs.List.{flat_map}
use Rattle.std.proofs.Common.{◌≡◌, ◌++◌, map, drop}
use Rattle.elab_walk.specs.Placements.{regions_at}
use Rattle.elab_walk.specs.Trails.{placement}
use Rattle.elab_flat.proofs.flat.regions_of.Given as goal

abbrev pub invariant-loop-at : goal.invariant-loop-at
invariant-loop-at l =
    l.made.items ++ flat_map regions_at (map placement (drop l.at-index l.placements)) ≡ flat_map regions_at (map placement l.placements)
