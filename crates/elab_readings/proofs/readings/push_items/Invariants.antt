use Rattle.std.proofs.Common.{◌≡◌, ◌++◌, map, drop}
use Rattle.std.specs.List.{flat_map}
use Rattle.rtl_tree.specs.TreeItem.{module_item}
use Rattle.elab_uses.specs.elab_standard.Scopes.{scopes}
use Rattle.elab_readings.specs.Readings.{item_notes}
use Rattle.elab_readings.proofs.readings.push_items.Given as goal

abbrev pub invariant-loop-item : goal.invariant-loop-item
invariant-loop-item l = record {
  made : l.made.items ++ flat_map (item_notes l.home (scopes l.own)) (map module_item (drop l.item-index l.items)) ≡ l.initial.made.items ++ flat_map (item_notes l.home (scopes l.initial.own)) (map module_item l.items);
  same : scopes l.own ≡ scopes l.initial.own;
}
