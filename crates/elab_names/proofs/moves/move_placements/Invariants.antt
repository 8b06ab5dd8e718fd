use Rattle.std.proofs.Common.{◌≡◌, map}
use Rattle.rtl_elab.specs.elab_walk.Trails.{AreDeclared, placement}
use Rattle.elab_names.specs.Extracts.{place_in}
use Rattle.elab_names.specs.Moves.{moved_placement}
use Rattle.elab_names.proofs.Mapping.{moved_to}
use Rattle.elab_names.proofs.moves.move_placements.Given as goal

abbrev pub invariant-loop-place : goal.invariant-loop-place
invariant-loop-place l = record {
  moved : map placement l.placements ≡ moved_to (moved_placement (place_in l.numbers)) l.place (map placement l.fn.placements);
  declared : AreDeclared l.fn.placements → AreDeclared l.placements;
}
