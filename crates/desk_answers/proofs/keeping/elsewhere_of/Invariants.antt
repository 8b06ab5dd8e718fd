use Rattle.std.proofs.Common.{◌≡◌, map, take}
use Rattle.desk_memo.specs.check_conditions.Foreign.{elsewhere_in}
use Rattle.desk_memo.specs.Shown.{lists_in}
use Rattle.desk_answers.proofs.keeping.elsewhere_of.Given as goal

abbrev pub invariant-loop-number : goal.invariant-loop-number
invariant-loop-number l =
    lists_in l.lists.items ≡ map (elsewhere_in l.conditions) (take l.number-index l.numbers)
