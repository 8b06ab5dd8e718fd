use Rattle.std.proofs.Common.{◌≡◌, map, drop}
use Rattle.rtl_tree.specs.TreeItem.{module_item}
use Rattle.elab_walk.specs.Rooms.{process_places, sought_on}
use Rattle.elab_walk.proofs.places.seek_all.Given as goal

abbrev pub invariant-loop-item : goal.invariant-loop-item
invariant-loop-item l =
    sought_on l.seek (process_places (map module_item (drop l.item-index l.items)))
    ≡ sought_on l.initial.seek (process_places (map module_item l.items))
