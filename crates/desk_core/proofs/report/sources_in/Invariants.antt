use Rattle.std.proofs.Common.{◌≡◌, map, take}
use Rattle.desk_places.specs.Places.{sources_of}
use Rattle.desk_core.proofs.report.sources_in.Given as goal

abbrev pub invariant-loop-number : goal.invariant-loop-number
invariant-loop-number l = sources_of l.sources ≡ (map (λ file. file.now) (take l.number l.files))
