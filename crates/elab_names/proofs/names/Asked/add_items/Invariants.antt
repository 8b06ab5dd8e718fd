use Rattle.std.proofs.Common.{map, take}
use Rattle.rtl_tree.specs.TreeItem.{module_item}
use Rattle.rtl_elab.specs.elab_links.Modules.{lookups_of}
use Rattle.elab_names.specs.Asking.{Asks}
use Rattle.elab_names.specs.LookUps.{names_in}
use Rattle.elab_names.proofs.names.Asked.add_items.Given as goal

abbrev pub invariant-loop-item : goal.invariant-loop-item
invariant-loop-item l =
    Asks (lookups_of l.set) (names_in (map module_item (take l.item-index l.items))) l.initial.self l.self
