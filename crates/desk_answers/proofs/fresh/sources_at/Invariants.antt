use Rattle.std.proofs.Common.{◌≡◌, take}
use Rattle.desk_places.specs.Places.{sources_of}
use Rattle.desk_answers.specs.Fresh.{sources_at}
use Rattle.desk_answers.proofs.fresh.sources_at.Given as goal

abbrev pub invariant-loop-number : goal.invariant-loop-number
invariant-loop-number l =
    sources_of l.sources ≡ (sources_at (take l.number-index l.numbers) l.files)
