-- Modules with other items.
-- Worked examples: crates/elab_expand/proofs/Examples.antt.
use Rattle.std.specs.Prelude.{List, []}
use Rattle.rtl_tree.specs.TreeItem.{ModuleItem}
use Rattle.rtl_tree.specs.TreeModule.{Circuit}

-- a module with these items in place of its own and of its constructs
abbrev pub with_items : Circuit → List ModuleItem → Circuit
with_items circuit items =
    record {
      at = circuit.at;
      name = circuit.name;
      parameters = circuit.parameters;
      header = circuit.header;
      items = items;
      constructs = [];
      dropped = circuit.dropped;
    }
