use Rattle.std.specs.List.{flat_map}
use Rattle.std.proofs.Common.{List, map, refl}
use Rattle.rtl_flat.specs.declared.instance.DroppedRegion.{DroppedRegion}
use Rattle.elab_walk.proofs.elab_parts_proofs.Rows.{more_made}
use Rattle.elab_walk.specs.declared.trail.Placement.{Placement}
use Rattle.elab_walk.specs.Placements.{regions_at}
use Rattle.elab_walk.specs.Trails.{placement}
use Rattle.elab_flat.proofs.flat.regions_of.Goals as goal

pub loop-at-preserved : goal.loop-at-preserved
loop-at-preserved c =
    let row : List Placement → List DroppedRegion = λ placements. flat_map regions_at (map placement placements) in
    let own : Placement → List DroppedRegion = λ at. regions_at (placement at) in
    more_made row own (λ at placements. refl) c.loop-at.made.items c.push_regions.new.dropped.items c.args.placements.now c.loop-at.at-index c.at-item.result _ c.loop-at-test.true c.at-item.is c.in_ok-push_regions.ensures c.loop-at.invariant
