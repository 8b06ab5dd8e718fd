use Rattle.std.proofs.Common.{◌≡◌, ◌++◌, map, drop}
use Rattle.elab_walk.specs.Placements.{region}
use Rattle.elab_walk.specs.Trails.{placement}
use Rattle.elab_flat.proofs.flat.push_located.Given as goal

abbrev pub invariant-loop-one : goal.invariant-loop-one
invariant-loop-one l =
    l.dropped.items ++ map (region (placement l.at)) (drop l.one-index l.regions)
    ≡ l.initial.dropped.items ++ map (region (placement l.at)) l.regions
