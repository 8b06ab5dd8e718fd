use Rattle.std.specs.List.{flat_map}
use Rattle.std.proofs.Common.{◌≡◌, ◌++◌, map, drop}
use Rattle.elab_walk.specs.Placements.{signals_at}
use Rattle.elab_walk.specs.Trails.{AreDeclared, placement}
use Rattle.elab_walk.specs.Visits.{library}
use Rattle.elab_flat.specs.Views.{works}
use Rattle.elab_flat.specs.Works.{no_works, with_placements}
use Rattle.elab_flat.proofs.flat.contents_of.Given as goal

abbrev pub invariant-loop-place : goal.invariant-loop-place
invariant-loop-place l = record {
  declared : AreDeclared l.placements;
  same : map placement l.placements ≡ map placement l.initial.placements;
  signals : l.made.signals.items ++ flat_map signals_at (drop l.place (map placement l.initial.placements)) ≡ flat_map signals_at (map placement l.initial.placements);
  works : with_placements (library l.all) (works l.made.works) (drop l.place (map placement l.initial.placements)) ≡ with_placements (library l.all) no_works (map placement l.initial.placements);
}
