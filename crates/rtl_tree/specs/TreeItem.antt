-- The plain form of the items of a module.
-- Worked examples: crates/elab_items/proofs/Examples.antt, crates/elab_parts/proofs/Examples.antt.
use Rattle.std.specs.Prelude.{ℕ, Bool, List, map, Option}
use Rattle.std.specs.Option.{option_map}
use Rattle.rtl_tree.specs.TreeExpr.{Identifier, Formula, Bounds, identifier, formula, bounds}
use Rattle.rtl_tree.specs.TreeStmt.{Target, Pause, Action, target, pause, action}
use Rattle.rtl_tree.specs.declared.tree.item.Direction.{Direction}
use Rattle.rtl_tree.specs.declared.tree.item.PortKind.{PortKind}
use Rattle.rtl_tree.specs.declared.tree.item.PortHead.{PortHead}
use Rattle.rtl_tree.specs.declared.tree.item.Wire.{Wire}
use Rattle.rtl_tree.specs.declared.tree.item.Reg.{Reg}
use Rattle.rtl_tree.specs.declared.tree.item.ParameterKind.{ParameterKind}
use Rattle.rtl_tree.specs.declared.tree.item.Setting.{Setting}
use Rattle.rtl_tree.specs.declared.tree.item.Assignment.{Assignment}
use Rattle.rtl_tree.specs.declared.tree.item.GateDrive as declared
use Rattle.rtl_tree.specs.declared.tree.item.EventEdge.{EventEdge}
use Rattle.rtl_tree.specs.declared.tree.item.Event.{Event}
use Rattle.rtl_tree.specs.declared.tree.item.Event.TheVariants as awaited
use Rattle.rtl_tree.specs.declared.tree.item.EventControl.{EventControl}
use Rattle.rtl_tree.specs.declared.tree.item.EventControl.TheVariants as controlled
use Rattle.rtl_tree.specs.declared.tree.item.OrderedArgument.{OrderedArgument}
use Rattle.rtl_tree.specs.declared.tree.item.NamedArgument.{NamedArgument}
use Rattle.rtl_tree.specs.declared.tree.item.Arguments.{Arguments}
use Rattle.rtl_tree.specs.declared.tree.item.Arguments.TheVariants as given
use Rattle.rtl_tree.specs.declared.tree.item.Instance.{Instance}
use Rattle.rtl_tree.specs.declared.tree.item.Item.{Item}
use Rattle.rtl_tree.specs.declared.tree.item.Item.TheVariants as written

-- what stands before the names of declared ports
pub record Head : Type 0 where
  pub at : ℕ
  pub direction : Direction
  pub kind : Option PortKind
  pub signed : Bool
  pub bounds : Option Bounds

-- a net that is declared, and what drives it from its declaration on
pub record Net : Type 0 where
  pub name : Identifier
  pub value : Option Formula

-- a variable that is declared, and whether an initial value is dropped at its name
pub record Variable : Type 0 where
  pub name : Identifier
  pub initial : Bool

-- a name with the value that it is given, of a parameter
pub record Valuation : Type 0 where
  pub name : Identifier
  pub value : Formula

-- a continuous assignment
pub record Drive : Type 0 where
  pub target : Target
  pub value : Formula

-- what a gate drives: outputs of one bit, each with the same value, which is made of the gate's inputs, each in parentheses
pub record GateDrive : Type 0 where
  pub outputs : List Target
  pub value : Formula

-- an event that a process waits for
pub data Happening : Type 0 where
  Edge : (edge : EventEdge) (at : ℕ) (name : Identifier) → Happening
  Change : (name : Identifier) → Happening
  ChangeBit : (name : Identifier) (index : Formula) → Happening
  ChangePart : (name : Identifier) (msb lsb : Formula) → Happening

-- the place of an event: of its first token
abbrev pub happening_place : Happening → ℕ
happening_place (Edge edge at name) = at
happening_place (Change name) = name.at
happening_place (ChangeBit name index) = name.at
happening_place (ChangePart name msb lsb) = name.at

-- what an always waits for
pub data Sensitivity : Type 0 where
  Star : Sensitivity
  StarInParens : Sensitivity
  Listed : (events : List Happening) → Sensitivity

-- an argument by position
pub record Positional : Type 0 where
  pub at : ℕ
  pub value : Option Formula

-- an argument by name
pub record Associated : Type 0 where
  pub at : ℕ
  pub name : Identifier
  pub value : Option Formula

-- the arguments of an instance
pub data Association : Type 0 where
  ByPosition : (arguments : List Positional) → Association
  ByName : (arguments : List Associated) → Association

-- an instance of a module
pub record Instantiation : Type 0 where
  pub name : Identifier
  pub connections : Association

-- an item of a module
pub data ModuleItem : Type 0 where
  Ports : (head : Head) (names : List Identifier) → ModuleItem
  Nets : (at : ℕ) (signed : Bool) (bounds : Option Bounds) (nets : List Net) → ModuleItem
  Variables : (at : ℕ) (signed : Bool) (bounds : Option Bounds) (variables : List Variable) → ModuleItem
  Integers : (at : ℕ) (names : List Identifier) → ModuleItem
  Parameters : (at : ℕ) (kind : ParameterKind) (bounds : Option Bounds) (values : List Valuation) → ModuleItem
  Drives : (at : ℕ) (pause : Option Pause) (drives : List Drive) → ModuleItem
  Gates : (at : ℕ) (names : List Identifier) (pause : Option Pause) (drives : List GateDrive) → ModuleItem
  Always : (at : ℕ) (sensitivity : Sensitivity) (body : Action) → ModuleItem
  Instances : (child : Identifier) (parameters : Association) (instantiations : List Instantiation) → ModuleItem

abbrev pub head : PortHead → Head
head written =
    record {
      at = written.at;
      direction = written.direction;
      kind = written.kind;
      signed = written.signed;
      bounds = option_map bounds written.range;
    }

abbrev pub net : Wire → Net
net wire = record { name = identifier wire.name; value = option_map formula wire.value }

abbrev pub variable : Reg → Variable
variable reg = record { name = identifier reg.name; initial = reg.initial }

abbrev pub valuation : Setting → Valuation
valuation setting = record { name = identifier setting.name; value = formula setting.value }

abbrev pub drive : Assignment → Drive
drive assignment =
    record { target = target assignment.target; value = formula assignment.value }

abbrev pub gate_drive : declared.GateDrive → GateDrive
gate_drive drive =
    record { outputs = map target drive.outputs.items; value = formula drive.value }

abbrev pub happening : Event → Happening
happening (awaited.Edge edge at name) = Edge edge at (identifier name)
happening (awaited.Whole name) = Change (identifier name)
happening (awaited.Bit name index) = ChangeBit (identifier name) (formula index)
happening (awaited.Part name msb lsb) = ChangePart (identifier name) (formula msb) (formula lsb)

abbrev pub sensitivity : EventControl → Sensitivity
sensitivity controlled.Star = Star
sensitivity controlled.StarInParens = StarInParens
sensitivity (controlled.Events events) = Listed (map happening events.items)

abbrev pub positional : OrderedArgument → Positional
positional argument = record { at = argument.at; value = option_map formula argument.value }

abbrev pub associated : NamedArgument → Associated
associated argument =
    record {
      at = argument.at;
      name = identifier argument.name;
      value = option_map formula argument.value;
    }

abbrev pub association : Arguments → Association
association (given.Ordered arguments) = ByPosition (map positional arguments.items)
association (given.Named arguments) = ByName (map associated arguments.items)

abbrev pub instantiation : Instance → Instantiation
instantiation instance =
    record {
      name = identifier instance.name;
      connections = association instance.connections;
    }

abbrev pub module_item : Item → ModuleItem
module_item (written.Ports head' names) = Ports (head head') (map identifier names.items)
module_item (written.Wires at signed range wires) =
    Nets at signed (option_map bounds range) (map net wires.items)
module_item (written.Regs at signed range regs) =
    Variables at signed (option_map bounds range) (map variable regs.items)
module_item (written.Integers at names) = Integers at (map identifier names.items)
module_item (written.Parameters at kind range settings) =
    Parameters at kind (option_map bounds range) (map valuation settings.items)
module_item (written.Assigns at delay assignments) =
    Drives at (option_map pause delay) (map drive assignments.items)
module_item (written.Gates at names delay drives) =
    Gates at (map identifier names.items) (option_map pause delay) (map gate_drive drives.items)
module_item (written.Always at control body) = Always at (sensitivity control) (action body)
module_item (written.Instances child parameters instances) =
    Instances (identifier child) (association parameters) (map instantiation instances.items)
