use Rattle.std.proofs.Common.{◌≡◌, ◌+◌, ◌≤◌, length, map, drop}
use Rattle.rtl_tree.specs.TreeItem.{net}
use Rattle.elab_parts.specs.Items.{net_places}
use Rattle.elab_parts.proofs.places.nets.Given as goal

abbrev pub invariant-loop-wire : goal.invariant-loop-wire
invariant-loop-wire l =
    (l.count + length (net_places (map net (drop l.wire-index l.wires))) ≡ length (net_places (map net l.wires)))
    × (l.count ≤ l.wire-index)
