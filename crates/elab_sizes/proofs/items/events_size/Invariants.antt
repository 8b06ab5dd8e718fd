use Rattle.std.proofs.Common.{◌≡◌, ◌≤◌, ◌+◌, ◌-◌, ◌^◌, map, min, drop}
use Rattle.elab_sizes.specs.Sizes.{happening_size, sizes}
use Rattle.rtl_tree.specs.TreeItem.{happening}
use Rattle.elab_sizes.proofs.items.events_size.Given as goal

abbrev pub invariant-loop-event : goal.invariant-loop-event
invariant-loop-event l =
    (min (l.sum + sizes happening_size (map happening (drop l.event-index l.all))) (2 ^ 32 - 1) ≡ min (sizes happening_size (map happening l.all)) (2 ^ 32 - 1))
    × (l.sum ≤ 2 ^ 32 - 1)
