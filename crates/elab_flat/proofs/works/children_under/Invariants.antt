use Rattle.elab_walk.specs.Trails.{placement}
use Rattle.elab_flat.specs.Held.{depth_of}
use Rattle.elab_flat.proofs.Keeping.{AreKeptTo}
use Rattle.elab_flat.proofs.works.children_under.Given as goal

abbrev pub invariant-loop-other : goal.invariant-loop-other
invariant-loop-other l = AreKeptTo (depth_of (placement l.at)) l.behind l.other-index l.made.items
