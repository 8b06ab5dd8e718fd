use Rattle.std.proofs.Common.{◌≡◌, ◌++◌, map, drop}
use Rattle.std.specs.List.{flat_map}
use Rattle.rtl_tree.specs.TreeItem.{module_item}
use Rattle.elab_readings.specs.Readings.{item_below}
use Rattle.elab_readings.specs.Views.{below}
use Rattle.elab_readings.proofs.above.below_of.Given as goal

abbrev pub invariant-loop-item : goal.invariant-loop-item
invariant-loop-item l =
    map below l.made.items ++ flat_map item_below (map module_item (drop l.item-index l.items))
    ≡ flat_map item_below (map module_item l.items)
