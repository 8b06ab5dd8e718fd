use Rattle.std.proofs.Common.{◌≡◌, ◌++◌, map, drop}
use Rattle.elab_uses.specs.elab_walk.Trails.{AreDeclared, placement}
use Rattle.elab_readings.specs.Readings.{notes_from, notes_of}
use Rattle.elab_readings.specs.Views.{waiting}
use Rattle.elab_readings.proofs.readings.notes_of.Given as goal

abbrev pub invariant-loop-place : goal.invariant-loop-place
invariant-loop-place l = record {
  declared : AreDeclared l.placements;
  same : map placement l.placements ≡ map placement l.initial.placements;
  made : l.made.items ++ notes_from (waiting l.pending.items) (drop l.place (map placement l.initial.placements)) ≡ notes_of (map placement l.initial.placements);
}
