use Rattle.std.proofs.Common.{◌≡◌, map, take}
use Rattle.name_map.specs.Values.{values_of}
use Rattle.check_conditions.specs.Kept.{is_other}
use Rattle.check_conditions.proofs.foreign.marks.Given as goal

abbrev pub invariant-loop-ask : goal.invariant-loop-ask
invariant-loop-ask l =
    l.marks.items ≡ map (λ ask. is_other l.number (values_of l.providers ask.name)) (take l.ask-index l.asks)
