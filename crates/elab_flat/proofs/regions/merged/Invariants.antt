use Rattle.std.proofs.Common.{◌≡◌, ◌++◌, drop}
use Rattle.elab_walk.specs.Regions.{merged}
use Rattle.elab_flat.proofs.regions.merged.Given as goal

abbrev pub invariant-loop-other : goal.invariant-loop-other
invariant-loop-other l =
    l.made.items ++ merged l.rest (drop l.other-index l.others) ≡ merged l.regions l.others
