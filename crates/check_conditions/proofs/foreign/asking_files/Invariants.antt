use Rattle.std.proofs.Common.{◌≡◌, map, take}
use Rattle.check_conditions.specs.Foreign.{foreign_in}
use Rattle.check_conditions.specs.Kept.{bare, shown}
use Rattle.check_conditions.proofs.foreign.asking_files.Given as goal

abbrev pub invariant-loop-number : goal.invariant-loop-number
invariant-loop-number l =
    map shown l.made.items ≡ map (λ number. bare (foreign_in l.all number)) (take l.number-index l.numbers)
