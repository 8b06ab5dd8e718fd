use Rattle.std.proofs.Common.{◌≡◌, map, take}
use Rattle.desk_places.specs.Places.{sources_of}
use Rattle.desk_rulings.proofs.waiving.sources_in.Given as goal

abbrev pub invariant-loop-file : goal.invariant-loop-file
invariant-loop-file l = sources_of l.sources ≡ map (λ file. file.now) (take l.file-index l.files)
