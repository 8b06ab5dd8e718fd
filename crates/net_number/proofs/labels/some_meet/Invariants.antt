use Rattle.std.proofs.Common.{◌≡◌, map, drop}
use Rattle.rtl_flat.specs.Expression.{tree}
use Rattle.rtl_flat.specs.Value.{store}
use Rattle.net_model.specs.Block.{some_meets}
use Rattle.net_number.proofs.labels.some_meet.Given as goal

abbrev pub invariant-loop-label : goal.invariant-loop-label
invariant-loop-label l =
    some_meets l.fill (store l.numbers) l.kind l.selector (map tree (drop l.label-index l.labels)) ≡ some_meets l.fill (store l.numbers) l.kind l.selector (map tree l.labels)
