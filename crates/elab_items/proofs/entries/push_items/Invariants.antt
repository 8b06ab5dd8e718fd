use Rattle.std.proofs.Common.{◌≡◌, ◌++◌, map, drop}
use Rattle.rtl_tree.specs.TreeItem.{module_item}
use Rattle.elab_items.specs.Declarations.{declaration, items_declarations}
use Rattle.elab_items.proofs.entries.push_items.Given as goal

abbrev pub invariant-loop-item : goal.invariant-loop-item
invariant-loop-item l =
    map declaration l.entries.items ++ items_declarations (map module_item (drop l.item-index l.items))
    ≡ map declaration l.initial.entries.items ++ items_declarations (map module_item l.items)
