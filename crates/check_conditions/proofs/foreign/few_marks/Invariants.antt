use Rattle.std.proofs.Common.{◌≡◌, map, take}
use Rattle.check_conditions.specs.Foreign.{is_elsewhere}
use Rattle.check_conditions.proofs.foreign.few_marks.Given as goal

abbrev pub invariant-loop-ask : goal.invariant-loop-ask
invariant-loop-ask l =
    l.marks.items ≡ map (λ ask. is_elsewhere l.all l.number ask.name) (take l.ask-index l.asks)
