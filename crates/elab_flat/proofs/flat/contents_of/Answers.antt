use Rattle.std.specs.Prelude.{IfSome, List, ◌++◌, Option, Vec}
use Rattle.std.specs.declared.alloc.Global.{Global}
use Rattle.std.specs.List.{flat_map, slice_get}
use Rattle.std.proofs.lemmas.List.{get_or-set_same}
use Rattle.std.proofs.Common.{◌+◌, ◌<◌, ◌≡◌, ◌∙◌, ap, arith, get_or, drop, length, map, set, subst, sym}
use Rattle.std.proofs.Math.Seq.{map-set_same}
use Rattle.std.proofs.lemmas.List.Elements.{All-set}
use Rattle.elab_walk.specs.declared.trail.Placement.{Placement as Made}
use Rattle.elab_walk.specs.elab_items.declared.roster.Listing.{Listing}
use Rattle.elab_walk.specs.elab_items.declared.roster.Roster.{Roster}
use Rattle.elab_walk.specs.Placements.{Placement, signals_at}
use Rattle.elab_walk.specs.Trails.{IsDeclared, placement}
use Rattle.elab_walk.specs.elab_items.Rosters.{listing}
use Rattle.elab_walk.specs.Visits.{library, visit}
use Rattle.elab_flat.specs.Children.{HaveChildren}
use Rattle.elab_flat.specs.Views.{works}
use Rattle.elab_flat.specs.Works.{with_placements}
use Rattle.elab_flat.proofs.Taking.{to_read}
use Rattle.elab_flat.proofs.flat.contents_of.Goals as goal

pub add-requires-clause-declared : goal.add-requires-clause-declared
add-requires-clause-declared c =
    let made = c.loop-place.placements in
    let inside : c.loop-place.place < length made = omega (arith, c.loop-place.auto.placements, c.loop-place-test.true) in
    let same = map-set_same placement made c.loop-place.place c.take_declared.new.self c.index-placements-place.result c.in_ok-declared.ensures.same in
    subst (λ (seen : List Placement). IfSome (slice_get seen c.loop-place.place) (λ at. IsDeclared at.visit c.in_ok-declared.declared)) (sym same) (to_read (λ at. IsDeclared at.visit c.in_ok-declared.declared) made c.loop-place.place c.index-placements-place.result inside c.in_ok-declared.ensures.declared)

pub add-requires-clause-others : goal.add-requires-clause-others
add-requires-clause-others c =
    let none : IfSome c.take_declared.new.self.declared (IsDeclared (visit c.take_declared.new.self.visit)) = subst (λ (o : Option Roster). IfSome o (IsDeclared (visit c.take_declared.new.self.visit))) (sym c.in_ok-declared.ensures.taken) tt in
    All-set (λ (made : Made). IfSome made.declared (IsDeclared (visit made.visit))) c.loop-place.placements c.loop-place.place c.take_declared.new.self none c.loop-place.invariant.declared

pub add-requires-clause-held : goal.add-requires-clause-held
add-requires-clause-held c =
    let kept = map-set_same placement c.loop-place.placements c.loop-place.place c.take_declared.new.self c.index-placements-place.result c.in_ok-declared.ensures.same in
    subst (HaveChildren (library c.args.all)) (sym (kept ∙ c.loop-place.invariant.same)) c.requires.held

pub give_declared-requires : goal.give_declared-requires
give_declared-requires c =
    let made : List Made = c.loop-place.placements in
    let place = c.loop-place.place in
    let taken : List Made = set made place c.take_declared.new.self in
    let first : Made = get_or made place c.index-placements-place.result in
    let again : Made = get_or taken place c.index-placements-place-in-loop-place.result in
    let inside : place < length made = omega (arith, c.loop-place.auto.placements, c.loop-place-test.true) in
    let there : placement again ≡ placement first
    = ap placement (get_or-set_same made place c.take_declared.new.self c.index-placements-place-in-loop-place.result inside) ∙ c.in_ok-declared.ensures.same in
    let own = c.in_ok-declared.ensures.declared in
    let kept : IsDeclared (placement first).visit c.add.new.declared
    = (c.in_ok-add.ensures.names ∙ own.0, ap (λ (listed : Vec (Listing) Global). map listing listed.items) c.in_ok-add.ensures.listed ∙ own.1) in
    subst (λ (p : Placement). IsDeclared p.visit c.add.new.declared) (sym there) kept

pub loop-place-preserved : goal.loop-place-preserved
loop-place-preserved c =
    let all = library c.args.all in
    let made : List Made = c.loop-place.placements in
    let place = c.loop-place.place in
    let seen : List Placement = map placement c.args.placements.now in
    let P : Made → Type 0 = λ one. IfSome one.declared (IsDeclared (visit one.visit)) in
    let taken : List Made = set made place c.take_declared.new.self in
    let given : List Made = set taken place c.give_declared.new.self in
    let kept = map-set_same placement made place c.take_declared.new.self c.index-placements-place.result c.in_ok-declared.ensures.same in
    let back = map-set_same placement taken place c.give_declared.new.self c.index-placements-place-in-loop-place.result c.give_declared.ensures.same in
    let same : map placement taken ≡ seen = kept ∙ c.loop-place.invariant.same in
    let none : P c.take_declared.new.self = subst (λ (o : Option Roster). IfSome o (IsDeclared (visit c.take_declared.new.self.visit))) (sym c.in_ok-declared.ensures.taken) tt in
    record {
      declared = All-set P taken place c.give_declared.new.self c.give_declared.ensures.declared (All-set P made place c.take_declared.new.self none c.loop-place.invariant.declared);
      same = back ∙ same;
      signals = subst (λ (ps : List Placement). c.add.new.self.signals.items ++ flat_map signals_at (drop (place + 1) ps) ≡ c.loop-place.made.signals.items ++ flat_map signals_at (drop place ps)) same c.in_ok-add.ensures.signals ∙ c.loop-place.invariant.signals;
      works = subst (λ (ps : List Placement). with_placements all (works c.add.new.self.works) (drop (place + 1) ps) ≡ with_placements all (works c.loop-place.made.works) (drop place ps)) same c.in_ok-add.ensures.works ∙ c.loop-place.invariant.works;
    }
