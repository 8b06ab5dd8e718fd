use Rattle.std.specs.Prelude.{ℕ, IfSome, List, Some}
use Rattle.std.proofs.Common.{◌<◌, ap, length, refl, subst}
use Rattle.std.proofs.Math.Seq.{map-set_same}
use Rattle.std.proofs.lemmas.List.Elements.{All-set}
use Rattle.elab_walk.specs.declared.trail.Placement.{Placement}
use Rattle.elab_walk.specs.Placements.{Placement as Seen}
use Rattle.elab_walk.specs.Trails.{IsDeclared, placement}
use Rattle.elab_walk.specs.Visits.{visit}
use Rattle.elab_walk.proofs.Keeping.{of_read}
use Rattle.elab_walk.proofs.trail.Trail.keep.Goals as goal

pub returns-in-Some-clause-same : goal.returns-in-Some-clause-same
returns-in-Some-clause-same c =
    ap (λ (all : List Seen). record { placements = all; room = c.args.self.now.room }) (map-set_same placement c.args.self.now.placements.items c.args.place (record c.in-Some.at.now { declared = Some c.args.declared }) c.in-Some.at.now (ap placement c.in-Some.ensures.value))

pub returns-in-Some-clause-declared : goal.returns-in-Some-clause-declared
returns-in-Some-clause-declared c = λ all.
    let made = c.args.self.now.placements.items in
    let inside : c.args.place < length made = subst (λ (n : ℕ). c.args.place < n) c.args.self.now.placements.ok.0 (c.in-Some.ensures.variant.0 refl) in
    let own : IsDeclared (visit c.in-Some.at.now.visit) c.args.declared = of_read (λ at. IsDeclared at.visit c.args.declared) made c.args.place c.in-Some.at.now inside c.in-Some.ensures.value c.requires in
    All-set (λ (made : Placement). IfSome made.declared (IsDeclared (visit made.visit))) made c.args.place (record c.in-Some.at.now { declared = Some c.args.declared }) own all
