use Rattle.std.proofs.Common.{◌≡◌, map, drop}
use Rattle.rtl_flat.specs.Expression.{tree}
use Rattle.rtl_flat.specs.Value.{store}
use Rattle.event_model.specs.Bodies.{some_matches}
use Rattle.event_write.proofs.choices.some_matches.Given as goal

abbrev pub invariant-loop-label : goal.invariant-loop-label
invariant-loop-label l =
    some_matches l.kind (store l.values) l.selector (map tree (drop l.label-index l.labels)) ≡ some_matches l.kind (store l.values) l.selector (map tree l.labels)
