use Rattle.std.proofs.Common.{◌≡◌, map, drop}
use Rattle.rtl_tree.specs.TreeItem.{module_item}
use Rattle.rtl_tree.specs.TreeModule.{circuit}
use Rattle.elab_parts.specs.elab_nodes.Spares.{spared}
use Rattle.elab_walk.specs.Rooms.{items_extras, extra_count}
use Rattle.elab_walk.proofs.extras.spare_extras.Given as goal

abbrev pub invariant-loop-item : goal.invariant-loop-item
invariant-loop-item l =
    spared l.left (items_extras (map module_item (drop l.item-index l.written.items.items)))
    ≡ spared l.most (extra_count (circuit l.written))
