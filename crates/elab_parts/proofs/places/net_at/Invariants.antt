use Rattle.std.proofs.Common.{◌≡◌, map, drop}
use Rattle.std.specs.List.{slice_get}
use Rattle.rtl_tree.specs.TreeItem.{net}
use Rattle.elab_parts.specs.Items.{net_places}
use Rattle.elab_parts.proofs.places.net_at.Given as goal

abbrev pub invariant-loop-wire : goal.invariant-loop-wire
invariant-loop-wire l =
    slice_get (net_places (map net (drop l.wire-index l.wires))) l.left ≡ slice_get (net_places (map net l.wires)) l.initial.left
