use Rattle.std.specs.Prelude.{IfSome}
use Rattle.std.proofs.Common.{◌<◌, arith, length}
use Rattle.std.proofs.lemmas.List.Elements.{All-get_or, All-set}
use Rattle.rtl_elab.specs.elab_walk.declared.trail.Placement.{Placement}
use Rattle.rtl_elab.specs.elab_walk.Trails.{IsDeclared, placement}
use Rattle.rtl_elab.specs.elab_walk.Visits.{visit}
use Rattle.elab_names.specs.Extracts.{place_in}
use Rattle.elab_names.specs.Moves.{moved_placement}
use Rattle.elab_names.proofs.Mapping.{moved_more_seen}
use Rattle.elab_names.proofs.moves.move_placements.Goals as goal

pub loop-place-preserved : goal.loop-place-preserved
loop-place-preserved c =
    let made = c.loop-place.placements in
    let inside : c.loop-place.place < length made = omega (arith, c.loop-place.auto.placements, c.loop-place-test.true) in
    record {
      moved = moved_more_seen (moved_placement (place_in c.args.numbers.now)) placement c.args.placements.now made c.loop-place.place c.index-placements-place.result c.move_placement.new.at c.loop-place-test.true c.loop-place.invariant.moved c.in_ok-move_placement.ensures.moved;
      declared = λ all.
          let before = c.loop-place.invariant.declared all in
          All-set (λ (made : Placement). IfSome made.declared (IsDeclared (visit made.visit))) made c.loop-place.place c.move_placement.new.at (c.in_ok-move_placement.ensures.declared (All-get_or (λ (made : Placement). IfSome made.declared (IsDeclared (visit made.visit))) made c.loop-place.place c.index-placements-place.result inside before)) before;
    }
