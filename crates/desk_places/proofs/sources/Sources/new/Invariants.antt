use Rattle.std.proofs.Common.{◌≡◌, take}
use Rattle.desk_places.specs.Places.{sources_of}
use Rattle.desk_places.proofs.sources.Sources.new.Given as goal

abbrev pub invariant-loop-file : goal.invariant-loop-file
invariant-loop-file l = sources_of l.sources ≡ take l.file-index l.files
