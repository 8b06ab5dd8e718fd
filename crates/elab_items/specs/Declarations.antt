-- The declarations of a module, in the order in which they stand: the parameters and the ports of its head, and then
-- its items (IEEE 1364-2001 sections 3.2, 3.9, 3.11 and 12.3).
-- Worked examples: proofs/Examples.antt.
use Rattle.std.specs.Prelude.{Bool, List, [], ◌∷◌, ◌++◌, map, Option, None, Some}
use Rattle.std.specs.Option.{option_map}
use Rattle.rtl_tree.specs.declared.tree.item.ParameterKind.{ParameterKind}
use Rattle.rtl_tree.specs.declared.tree.item.ParameterKind.TheVariants as kind
use Rattle.rtl_tree.specs.TreeExpr.{Bounds, Formula, Identifier, bounds, formula, identifier}
use Rattle.rtl_tree.specs.TreeItem.{Head, ModuleItem, Net, Instantiation, Valuation, Variable}
use Rattle.rtl_tree.specs.TreeItem as item
use Rattle.rtl_tree.specs.TreeModule.{Circuit, Header, HeaderParameter, HeaderPort, Heading}
use Rattle.rtl_tree.specs.TreeModule as tree
use Rattle.elab_items.specs.declared.entries.Form.{Form}
use Rattle.elab_items.specs.declared.entries.Form.TheVariants as form
use Rattle.elab_items.specs.declared.entries.Entry.{Entry}
use Rattle.elab_items.specs.declared.entries.Entry.TheVariants as written

-- a declaration of one name, or the range of those that follow
pub data Declaration : Type 0 where
  ParameterRange : (bounds : Option Bounds) → Declaration
  Parameter : (kind : ParameterKind) (name : Identifier) (value : Formula) → Declaration
  SignalRange : (bounds : Option Bounds) → Declaration
  Listed : (name : Identifier) → Declaration
  Signal : (form : Form) (signed : Bool) (name : Identifier) → Declaration
  Integer : (name : Identifier) → Declaration
  Instance : (name : Identifier) → Declaration

-- a parameter of the head without a range of its own has that of the parameter before it
abbrev pub heading_range : Option Heading → List Declaration
heading_range None = []
heading_range (Some heading) = ParameterRange heading.bounds ∷ []

abbrev pub head_parameters : List HeaderParameter → List Declaration
head_parameters [] = []
head_parameters (parameter ∷ others) =
    heading_range parameter.heading
    ++ Parameter kind.Parameter parameter.name parameter.value ∷ head_parameters others

-- a port of the head without a direction of its own has that of the port before it, with its range
abbrev pub in_force : Option Head → Option Head → Option Head
in_force former None = former
in_force former (Some own) = Some own

abbrev pub head_range : Option Head → List Declaration
head_range None = []
head_range (Some head) = SignalRange head.bounds ∷ []

abbrev pub headed : Option Head → Identifier → Declaration
headed None name = Listed name
headed (Some head) name = Signal (form.Header head.direction head.kind) head.signed name

abbrev pub head_ports : Option Head → List HeaderPort → List Declaration
head_ports former [] = []
head_ports former (port ∷ others) =
    head_range port.head
    ++ headed (in_force former port.head) port.name ∷ head_ports (in_force former port.head) others

abbrev pub header_declarations : Header → List Declaration
header_declarations tree.Absent = []
header_declarations tree.Empty = []
header_declarations (tree.Declared ports) = head_ports None ports
header_declarations (tree.Named names) = map Listed names

abbrev pub declared_net : Bool → Net → Declaration
declared_net signed net = Signal form.Wire signed net.name

abbrev pub declared_variable : Bool → Variable → Declaration
declared_variable signed variable = Signal form.Reg signed variable.name

abbrev pub declared_parameter : ParameterKind → Valuation → Declaration
declared_parameter kind valuation = Parameter kind valuation.name valuation.value

abbrev pub declared_instance : Instantiation → Declaration
declared_instance instantiation = Instance instantiation.name

-- the name of a gate is one of the module, and stands for nothing else either
abbrev pub declared_gate : Identifier → Declaration
declared_gate name = Instance name

abbrev pub item_declarations : ModuleItem → List Declaration
item_declarations (item.Ports head names) =
    SignalRange head.bounds ∷ map (Signal (form.Item head.direction head.kind) head.signed) names
item_declarations (item.Nets at signed bounds nets) = SignalRange bounds ∷ map (declared_net signed) nets
item_declarations (item.Variables at signed bounds variables) =
    SignalRange bounds ∷ map (declared_variable signed) variables
item_declarations (item.Integers at names) = map Integer names
item_declarations (item.Parameters at kind bounds values) =
    ParameterRange bounds ∷ map (declared_parameter kind) values
item_declarations (item.Drives at pause drives) = []
item_declarations (item.Gates at names pause drives) = map declared_gate names
item_declarations (item.Always at sensitivity body) = []
item_declarations (item.Instances child parameters instantiations) = map declared_instance instantiations

abbrev pub items_declarations : List ModuleItem → List Declaration
items_declarations [] = []
items_declarations (first ∷ others) = item_declarations first ++ items_declarations others

abbrev pub declarations : Circuit → List Declaration
declarations circuit =
    head_parameters circuit.parameters
    ++ header_declarations circuit.header
    ++ items_declarations circuit.items

-- what an entry of the code declares
abbrev pub declaration : Entry → Declaration
declaration (written.ParameterRange range) = ParameterRange (option_map (λ range. bounds range.now) range)
declaration (written.Parameter kind name value) = Parameter kind (identifier name.now) (formula value.now)
declaration (written.SignalRange range) = SignalRange (option_map (λ range. bounds range.now) range)
declaration (written.Listed name) = Listed (identifier name.now)
declaration (written.Signal form signed name) = Signal form signed (identifier name.now)
declaration (written.Integer name) = Integer (identifier name.now)
declaration (written.Instance name) = Instance (identifier name.now)
