use Rattle.std.proofs.Common.{◌≡◌, ◌≤◌, ◌+◌, ◌-◌, ◌^◌, map, min, drop}
use Rattle.elab_sizes.specs.Sizes.{net_size, sizes}
use Rattle.rtl_tree.specs.TreeItem.{net}
use Rattle.elab_sizes.proofs.items.wires_size.Given as goal

abbrev pub invariant-loop-wire : goal.invariant-loop-wire
invariant-loop-wire l =
    (min (l.sum + sizes net_size (map net (drop l.wire-index l.all))) (2 ^ 32 - 1) ≡ min (sizes net_size (map net l.all)) (2 ^ 32 - 1))
    × (l.sum ≤ 2 ^ 32 - 1)
