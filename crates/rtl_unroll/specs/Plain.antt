-- Modules as they are written, with assignments in place of gates, and generate constructs apart from other items
-- (IEEE 1364-2001 sections 7.1 to 7.3 and 12.1.3, and IEEE 1364-2005 section 12.4.3 for names of loops without a label).
-- Worked examples: crates/rtl_unroll/proofs/Examples.antt.
use Rattle.std.specs.Prelude.{ℕ, ◌+◌, List, [], ◌∷◌, ◌++◌, length, map}
use Rattle.rtl_tree.specs.TreeItem.{ModuleItem, module_item}
use Rattle.rtl_tree.specs.TreeWritten.{WrittenItem, Plain, Primitives, Genvars, Region, If, IfElse, Case, For, WrittenItems, no_items, more_items, item_row}
use Rattle.rtl_tree.specs.TreeModule.{Construct, Circuit, WrittenCircuit, construct}
use Rattle.rtl_unroll.specs.declared.Sorted as code
use Rattle.rtl_unroll.specs.Gates.{gates_item}
use Rattle.rtl_unroll.specs.Lowered.{lowered_item}
use Rattle.rtl_unroll.specs.Numbering.{item_constructs}

-- the items of a module, the constructs among them, and how many constructs of the module's scope these are and hold
pub record Sorted : Type 0 where
  pub items : List ModuleItem
  pub constructs : List Construct
  pub count : ℕ

-- what a contract sees of items that are sorted
abbrev pub sorted_of : code.Sorted → Sorted
sorted_of made =
    record {
      items = map module_item made.items.items;
      constructs = map construct made.constructs.items;
      count = made.count;
    }

abbrev pub nothing_sorted : Sorted
nothing_sorted = record { items = []; constructs = []; count = 0 }

abbrev pub with_item : Sorted → ModuleItem → Sorted
with_item s item = record { items = s.items ++ item ∷ []; constructs = s.constructs; count = s.count }

abbrev pub with_construct : Sorted → WrittenItem → Sorted
with_construct s written =
    record {
      items = s.items;
      constructs = s.constructs ++ record { position = length s.items; written = lowered_item s.count written } ∷ [];
      count = s.count + item_constructs written;
    }

abbrev mutual
  -- an item behind others: those of a region are the module's
  pub sorted_item : Sorted → WrittenItem → Sorted
  sorted_item s (Plain item) = with_item s item
  sorted_item s (Primitives at kind pause gates) = with_item s (gates_item at kind pause gates)
  sorted_item s (Genvars at names) = with_construct s (Genvars at names)
  sorted_item s (Region at items) = sorted_items s items
  sorted_item s (If at condition taken) = with_construct s (If at condition taken)
  sorted_item s (IfElse at condition taken otherwise) = with_construct s (IfElse at condition taken otherwise)
  sorted_item s (Case at selector choices) = with_construct s (Case at selector choices)
  sorted_item s (For at index start condition stepped step body) =
      with_construct s (For at index start condition stepped step body)

  pub sorted_items : Sorted → WrittenItems → Sorted
  sorted_items s no_items = s
  sorted_items s (more_items first others) = sorted_items (sorted_item s first) others

-- a module with assignments in place of gates, and its constructs apart
abbrev pub plain_circuit : WrittenCircuit → Circuit
plain_circuit written =
    let sorted = sorted_items nothing_sorted (item_row written.items) in
    record {
      at = written.at;
      name = written.name;
      parameters = written.parameters;
      header = written.header;
      items = sorted.items;
      constructs = sorted.constructs;
      dropped = written.dropped;
    }
