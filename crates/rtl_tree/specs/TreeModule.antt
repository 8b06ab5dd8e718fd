-- The plain form of modules.
-- Worked examples: crates/elab_items/proofs/Examples.antt.
use Rattle.std.specs.Prelude.{ℕ, List, map, Option}
use Rattle.std.specs.Option.{option_map}
use Rattle.rtl_tree.specs.TreeExpr.{Identifier, Formula, Bounds, identifier, formula, bounds}
use Rattle.rtl_tree.specs.TreeItem.{Head, ModuleItem, head, module_item}
use Rattle.rtl_tree.specs.TreeWritten.{WrittenItem, written_item}
use Rattle.text_ground.specs.declared.dropped.Dropped.{Dropped}
use Rattle.rtl_tree.specs.declared.tree.modules.ParameterHead.{ParameterHead}
use Rattle.rtl_tree.specs.declared.tree.modules.HeadParameter.{HeadParameter}
use Rattle.rtl_tree.specs.declared.tree.modules.HeadPort.{HeadPort}
use Rattle.rtl_tree.specs.declared.tree.modules.PortList.{PortList}
use Rattle.rtl_tree.specs.declared.tree.modules.PortList.TheVariants as listed
use Rattle.rtl_tree.specs.declared.tree.modules.Construct as code
use Rattle.rtl_tree.specs.declared.tree.modules.Module.{Module}
use Rattle.rtl_tree.specs.declared.tree.modules.WrittenModule.{WrittenModule}

-- what stands before a parameter of a module's head
pub record Heading : Type 0 where
  pub at : ℕ
  pub bounds : Option Bounds

-- a parameter of a module's head
pub record HeaderParameter : Type 0 where
  pub heading : Option Heading
  pub name : Identifier
  pub value : Formula

-- a port that a module's head declares
pub record HeaderPort : Type 0 where
  pub head : Option Head
  pub name : Identifier

-- the list of ports in a module's head
pub data Header : Type 0 where
  Absent : Header
  Empty : Header
  Declared : (ports : List HeaderPort) → Header
  Named : (names : List Identifier) → Header

-- a generate construct, or what tells which names are genvars, and how many items of its module stand before it
pub record Construct : Type 0 where
  pub position : ℕ
  pub written : WrittenItem

-- a module whose gates are assignments: the items that stand in no generate construct, and the constructs
pub record Circuit : Type 0 where
  pub at : ℕ
  pub name : Identifier
  pub parameters : List HeaderParameter
  pub header : Header
  pub items : List ModuleItem
  pub constructs : List Construct
  pub dropped : List Dropped

-- a module as it is written
pub record WrittenCircuit : Type 0 where
  pub at : ℕ
  pub name : Identifier
  pub parameters : List HeaderParameter
  pub header : Header
  pub items : List WrittenItem
  pub dropped : List Dropped

abbrev pub heading : ParameterHead → Heading
heading head' = record { at = head'.at; bounds = option_map bounds head'.range }

abbrev pub header_parameter : HeadParameter → HeaderParameter
header_parameter parameter =
    record {
      heading = option_map heading parameter.head;
      name = identifier parameter.name;
      value = formula parameter.value;
    }

abbrev pub header_port : HeadPort → HeaderPort
header_port port =
    record { head = option_map head port.head; name = identifier port.name }

abbrev pub header : PortList → Header
header listed.Absent = Absent
header listed.Empty = Empty
header (listed.Declared ports) = Declared (map header_port ports.items)
header (listed.Named names) = Named (map identifier names.items)

abbrev pub construct : code.Construct → Construct
construct made = record { position = made.position; written = written_item made.written }

abbrev pub circuit : Module → Circuit
circuit written =
    record {
      at = written.at;
      name = identifier written.name;
      parameters = map header_parameter written.parameters.items;
      header = header written.ports;
      items = map module_item written.items.items;
      constructs = map construct written.constructs.items;
      dropped = written.dropped.items;
    }

abbrev pub written_circuit : WrittenModule → WrittenCircuit
written_circuit written =
    record {
      at = written.at;
      name = identifier written.name;
      parameters = map header_parameter written.parameters.items;
      header = header written.ports;
      items = map written_item written.items.items;
      dropped = written.dropped.items;
    }
