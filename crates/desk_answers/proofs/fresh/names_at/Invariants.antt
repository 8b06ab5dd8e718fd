use Rattle.std.proofs.Common.{◌≡◌, take}
use Rattle.desk_answers.specs.Fresh.{names_of, sources_at}
use Rattle.desk_answers.proofs.fresh.names_at.Given as goal

abbrev pub invariant-loop-number : goal.invariant-loop-number
invariant-loop-number l =
    l.names.items ≡ names_of (sources_at (take l.number-index l.numbers) l.files)
