use Rattle.std.proofs.Common.{◌≡◌}
use Rattle.elab_names.specs.Extracts.{place_in}
use Rattle.elab_names.specs.Moves.{moved_look_up}
use Rattle.elab_names.proofs.Mapping.{moved_to}
use Rattle.elab_names.proofs.moves.move_look_ups.Given as goal

abbrev pub invariant-loop-place : goal.invariant-loop-place
invariant-loop-place l = l.look_ups ≡ moved_to (moved_look_up (place_in l.numbers)) l.place l.fn.look_ups
