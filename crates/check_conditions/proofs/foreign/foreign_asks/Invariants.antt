use Rattle.std.proofs.Common.{◌≡◌, ◌++◌, map, drop}
use Rattle.name_map.specs.Values.{values_of}
use Rattle.check_conditions.specs.Foreign.{foreign_asks}
use Rattle.check_conditions.specs.Kept.{is_other}
use Rattle.check_conditions.proofs.foreign.foreign_asks.Given as goal

abbrev pub invariant-loop-ask : goal.invariant-loop-ask
invariant-loop-ask l =
    map (λ ask. ask.now) l.kept.items ++ foreign_asks (drop l.ask-index l.asks)
    (map (λ ask. is_other l.number (values_of l.providers ask.name)) (drop l.ask-index l.asks))
    ≡ foreign_asks l.asks (map (λ ask. is_other l.number (values_of l.providers ask.name)) l.asks)
