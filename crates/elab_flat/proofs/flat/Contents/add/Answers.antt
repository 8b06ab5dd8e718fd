use Rattle.std.specs.Prelude.{ℕ, IfSome, List, ◌++◌}
use Rattle.std.specs.List.{flat_map}
use Rattle.std.proofs.Common.{◌+◌, ◌-◌, ◌<◌, ◌≡◌, ◌∙◌, ap, drop, length, map, subst, sym, take}
use Rattle.std.proofs.lemmas.List.{length-map}
use Rattle.std.proofs.lemmas.List.Elements.{All-drop, All-take}
use Rattle.std.proofs.lemmas.Result.{on_ok_weaker}
use Rattle.elab_walk.specs.declared.trail.Placement.{Placement as Made}
use Rattle.elab_walk.specs.elab_items.Rosters.{listing}
use Rattle.elab_walk.specs.Placements.{Placement, signals_at}
use Rattle.elab_walk.specs.Trails.{IsDeclared, placement}
use Rattle.elab_walk.specs.Visits.{library, visit}
use Rattle.elab_walk.proofs.Keeping.{of_read}
use Rattle.elab_flat.specs.Children.{HasChildren}
use Rattle.elab_flat.specs.Views.{works}
use Rattle.elab_flat.specs.Works.{with_placement}
use Rattle.elab_flat.proofs.Children.{has_children}
use Rattle.elab_flat.proofs.Taking.{always, behind_it, more_signals, more_works, seen_at}
use Rattle.elab_flat.proofs.flat.Contents.add.Goals as goal

pub push_own-requires : goal.push_own-requires
push_own-requires c =
    let own = of_read (λ at. IsDeclared at.visit c.args.declared.now) c.args.placements.now c.args.place c.index-placements-place.result c.requires.inside c.index-placements-place.is c.requires.declared in
    ap (map listing) c.deref.ensures.value ∙ own.1

pub add_placement-requires-clause-names : goal.add_placement-requires-clause-names
add_placement-requires-clause-names c =
    let own = of_read (λ at. IsDeclared at.visit c.args.declared.now) c.args.placements.now c.args.place c.index-placements-place.result c.requires.inside c.index-placements-place.is c.requires.declared in
    own.0

pub add_placement-requires-clause-declared : goal.add_placement-requires-clause-declared
add_placement-requires-clause-declared c =
    let made = c.args.placements.now in
    let others = drop (c.args.place + 1) made in
    let P : Made → Type 0 = λ one. IfSome one.declared (IsDeclared (visit one.visit)) in
    All-take P (length made - (c.args.place + 1)) others (All-drop P (c.args.place + 1) made c.requires.others)

pub add_placement-requires-clause-held : goal.add_placement-requires-clause-held
add_placement-requires-clause-held c =
    let all = library c.args.all in
    let made = c.args.placements.now in
    let seen : List Placement = map placement made in
    let at = c.index-placements-place.result in
    let inside : c.args.place < length seen = subst (λ (n : ℕ). c.args.place < n) (sym (length-map made placement)) c.requires.inside in
    subst (HasChildren all (placement at)) (sym (behind_it made c.args.place)) (has_children all seen c.args.place (placement at) inside (seen_at made c.args.place at c.index-placements-place.is) c.requires.held)

pub returns-clause-signals : goal.returns-clause-signals
returns-clause-signals c =
    let made = c.args.placements.now in
    let seen : List Placement = map placement made in
    let at = c.index-placements-place.result in
    let inside : c.args.place < length seen = subst (λ (n : ℕ). c.args.place < n) (sym (length-map made placement)) c.requires.inside in
    always (c.push_own.new.signals.items ++ flat_map signals_at (drop (c.args.place + 1) seen) ≡ c.args.self.now.signals.items ++ flat_map signals_at (drop c.args.place seen)) (more_signals c.args.self.now.signals.items c.push_own.new.signals.items seen c.args.place (placement at) inside (seen_at made c.args.place at c.index-placements-place.is) c.in_ok-push_own.ensures) c.add_placement.result

pub returns-clause-works : goal.returns-clause-works
returns-clause-works c =
    let all = library c.args.all in
    let made = c.args.placements.now in
    let seen : List Placement = map placement made in
    let behind : List Placement = map placement (take (length made - (c.args.place + 1)) (drop (c.args.place + 1) made)) in
    let at = c.index-placements-place.result in
    let before = works c.args.self.now.works in
    let after = works c.add_placement.new.self in
    let inside : c.args.place < length seen = subst (λ (n : ℕ). c.args.place < n) (sym (length-map made placement)) c.requires.inside in
    on_ok_weaker c.add_placement.result (λ (told : after ≡ with_placement all before (placement at) behind). more_works all before after seen behind c.args.place (placement at) inside (seen_at made c.args.place at c.index-placements-place.is) (behind_it made c.args.place) told) c.add_placement.ensures.made
