use Rattle.std.proofs.Common.{take}
use Rattle.elab_names.specs.Moves.{AreFilesOf}
use Rattle.elab_names.proofs.used.used_files.Given as goal

abbrev pub invariant-loop-look_up : goal.invariant-loop-look_up
invariant-loop-look_up l = AreFilesOf (take l.look_up-index l.look_ups) l.numbers.items
