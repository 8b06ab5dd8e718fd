use Rattle.std.proofs.Common.{◌≡◌, ◌++◌, map, drop}
use Rattle.rtl_tree.specs.TreeItem.{module_item}
use Rattle.elab_walk.specs.Regions.{initials}
use Rattle.elab_flat.proofs.regions.initials.Given as goal

abbrev pub invariant-loop-item : goal.invariant-loop-item
invariant-loop-item l =
    l.made.items ++ initials (map module_item (drop l.item-index l.items)) ≡ initials (map module_item l.items)
