use Rattle.std.specs.Prelude.{ℕ, IfSome, List, ◌++◌, Option}
use Rattle.std.proofs.Common.{◌+◌, ◌<◌, ◌≡◌, ◌∙◌, ap, arith, drop, get_or, length, map, set, subst, sym}
use Rattle.std.proofs.Math.Seq.{map-set_same}
use Rattle.std.proofs.lemmas.List.Elements.{All-set}
use Rattle.elab_uses.specs.elab_items.declared.roster.Roster.{Roster}
use Rattle.elab_uses.specs.elab_walk.declared.trail.Placement.{Placement as Made}
use Rattle.elab_uses.specs.elab_walk.Placements.{Placement}
use Rattle.elab_uses.specs.elab_walk.Trails.{IsDeclared, placement}
use Rattle.elab_uses.specs.elab_walk.Visits.{visit}
use Rattle.elab_readings.specs.Readings.{notes_from}
use Rattle.elab_readings.specs.Views.{waiting}
use Rattle.elab_readings.proofs.Steps.{more_notes, next_placement}
use Rattle.elab_readings.proofs.readings.notes_of.Goals as goal

pub loop-place-preserved : goal.loop-place-preserved
loop-place-preserved c =
    let made : List Made = c.loop-place.placements in
    let place = c.loop-place.place in
    let read : Made = c.index-placements-place.result in
    let at : Made = get_or made place read in
    let inside : place < length made = omega (arith, c.loop-place.auto.placements, c.loop-place-test.true) in
    let seen : List Placement = map placement c.args.placements.now in
    let new : List Made = set made place c.push_placement.new.at in
    let kept = map-set_same placement made place c.push_placement.new.at read c.in_ok-push_placement.ensures.same in
    let same : map placement new ≡ seen = kept ∙ c.loop-place.invariant.same in
    let none : IfSome c.push_placement.new.at.declared (IsDeclared (visit c.push_placement.new.at.visit)) = subst (λ (o : Option Roster). IfSome o (IsDeclared (visit c.push_placement.new.at.visit))) (sym c.in_ok-push_placement.ensures.taken) tt in
    record {
      declared = All-set (λ (made : Made). IfSome made.declared (IsDeclared (visit made.visit))) made place c.push_placement.new.at none c.loop-place.invariant.declared;
      same = same;
      made = more_notes c.loop-place.made.items c.push_placement.new.made.items (waiting c.loop-place.pending.items) (waiting c.push_placement.new.pending.items) (placement at) (drop (place + 1) seen) c.in_ok-push_placement.ensures.notes c.in_ok-push_placement.ensures.waiting
          ∙ ap (λ (left : List Placement). c.loop-place.made.items ++ notes_from (waiting c.loop-place.pending.items) left) (sym (next_placement made seen place read inside c.loop-place.invariant.same))
          ∙ c.loop-place.invariant.made;
    }
