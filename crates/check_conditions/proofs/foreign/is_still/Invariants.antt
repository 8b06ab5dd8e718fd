use Rattle.std.proofs.Common.{◌≡◌, map, take}
use Rattle.check_conditions.specs.Foreign.{is_elsewhere}
use Rattle.check_conditions.proofs.foreign.is_still.Given as goal

abbrev pub invariant-loop-index : goal.invariant-loop-index
invariant-loop-index l =
    map (λ ask. is_elsewhere l.all l.number ask.name) (take l.index l.asks) ≡ take l.index l.was
