use Rattle.std.proofs.Common.{◌≡◌, take}
use Rattle.std.specs.List.{filter}
use Rattle.elab_walk.specs.Regions.{is_of}
use Rattle.elab_flat.proofs.regions.of_kind.Given as goal

abbrev pub invariant-loop-region : goal.invariant-loop-region
invariant-loop-region l = l.made.items ≡ filter (is_of l.kind) (take l.region-index l.regions)
