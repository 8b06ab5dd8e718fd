-- It serves inner contracts and proofs; no answer of the program is stated by it.
-- How deep the expressions and statements of a module are nested.
use Rattle.std.specs.Prelude.{ℕ, ◌+◌, max, List, [], ◌∷◌, Option, None, Some}
use Rattle.rtl_tree.specs.TreeExpr.{Formula, Number, Read, ReadBit, ReadPart, Parens, Apply, Concat, Repeat, Unary, Binary, Choose, Formulas, no_formulas, more_formulas, Bounds}
use Rattle.rtl_tree.specs.TreeStmt.{Target, Whole, Bit, Part, Joined, Targets, no_targets, more_targets, Span, Fixed, Named, Valued, Pause, Action, Null, Delayed, Assign, If, IfElse, Case, For, Block, Actions, no_actions, more_actions, Branch, Labelled, Default, Branches, no_branches, more_branches}
use Rattle.rtl_tree.specs.TreeItem.{Head, Net, Valuation, Drive, GateDrive, Happening, Edge, Change, ChangeBit, ChangePart, Sensitivity, Star, StarInParens, Listed, Positional, Associated, Association, ByPosition, ByName, Instantiation, ModuleItem, Ports, Nets, Variables, Integers, Parameters, Drives, Gates, Always, Instances}
use Rattle.rtl_tree.specs.TreeGate.{GateSpan, One, Two, GatePause, Gate}
use Rattle.rtl_tree.specs.TreeWritten.{WrittenItem, Plain, Primitives, Genvars, Region, WrittenItems, no_items, more_items, GenerateBlock, Single, GenerateChoice, GenerateChoices, no_choices, more_choices}
use Rattle.rtl_tree.specs.TreeWritten as generate
use Rattle.rtl_tree.specs.TreeModule.{HeaderParameter, HeaderPort, Header, Absent, Empty, Declared, WrittenCircuit}
use Rattle.rtl_tree.specs.TreeModule as modules

-- the greatest number that a function gives of a list's elements, or 0
abbrev pub greatest : {A : Type 0} → (A → ℕ) → List A → ℕ
greatest f [] = 0
greatest f (x ∷ xs) = max (f x) (greatest f xs)

-- the number of what may be there, or 0
abbrev pub if_any : {A : Type 0} → (A → ℕ) → Option A → ℕ
if_any f None = 0
if_any f (Some x) = f x

-- an expression is one deeper than the deepest that stands in it
abbrev mutual
  pub formula_depth : Formula → ℕ
  formula_depth (Number value at) = 1
  formula_depth (Read name) = 1
  formula_depth (ReadBit name index) = 1 + formula_depth index
  formula_depth (ReadPart name kind first second) = 1 + max (formula_depth first) (formula_depth second)
  formula_depth (Parens at inner) = 1 + formula_depth inner
  formula_depth (Apply function at inner) = 1 + formula_depth inner
  formula_depth (Concat at parts) = 1 + formulas_depth parts
  formula_depth (Repeat at times parts) = 1 + max (formula_depth times) (formulas_depth parts)
  formula_depth (Unary operator at operand) = 1 + formula_depth operand
  formula_depth (Binary operator at left right) = 1 + max (formula_depth left) (formula_depth right)
  formula_depth (Choose at condition taken otherwise) =
      1 + max (formula_depth condition) (max (formula_depth taken) (formula_depth otherwise))

  -- the greatest depth in a row
  pub formulas_depth : Formulas → ℕ
  formulas_depth no_formulas = 0
  formulas_depth (more_formulas first others) = max (formula_depth first) (formulas_depth others)

abbrev pub bounds_depth : Bounds → ℕ
bounds_depth bounds = max (formula_depth bounds.msb) (formula_depth bounds.lsb)

-- a target counts like an expression
abbrev mutual
  pub target_depth : Target → ℕ
  target_depth (Whole name) = 1
  target_depth (Bit name index) = 1 + formula_depth index
  target_depth (Part name kind first second) = 1 + max (formula_depth first) (formula_depth second)
  target_depth (Joined at parts) = 1 + targets_depth parts

  pub targets_depth : Targets → ℕ
  targets_depth no_targets = 0
  targets_depth (more_targets first others) = max (target_depth first) (targets_depth others)

-- a delay that is a number or a name holds no expression
abbrev pub span_depth : Span → ℕ
span_depth (Fixed value) = 0
span_depth (Named name) = 0
span_depth (Valued value) = formula_depth value

abbrev pub pause_depth : Pause → ℕ
pause_depth pause = span_depth pause.span

-- a statement is one deeper than the deepest expression or statement that stands in it
abbrev mutual
  pub action_depth : Action → ℕ
  action_depth (Null at) = 1
  action_depth (Delayed pause body) = 1 + max (pause_depth pause) (action_depth body)
  action_depth (Assign target kind pause value) =
      1 + max (target_depth target) (max (if_any pause_depth pause) (formula_depth value))
  action_depth (If at condition taken) = 1 + max (formula_depth condition) (action_depth taken)
  action_depth (IfElse at condition taken otherwise) =
      1 + max (formula_depth condition) (max (action_depth taken) (action_depth otherwise))
  action_depth (Case at kind full parallel selector branches) =
      1 + max (formula_depth selector) (branches_depth branches)
  action_depth (For at index start condition stepped step body) =
      1 + max
      (formula_depth start)
      (max (formula_depth condition) (max (formula_depth step) (action_depth body)))
  action_depth (Block at label body) = 1 + actions_depth body

  pub actions_depth : Actions → ℕ
  actions_depth no_actions = 0
  actions_depth (more_actions first others) = max (action_depth first) (actions_depth others)

  pub branch_depth : Branch → ℕ
  branch_depth (Labelled labels body) = max (greatest formula_depth labels) (action_depth body)
  branch_depth (Default at body) = action_depth body

  pub branches_depth : Branches → ℕ
  branches_depth no_branches = 0
  branches_depth (more_branches first others) = max (branch_depth first) (branches_depth others)

abbrev pub head_depth : Head → ℕ
head_depth head = if_any bounds_depth head.bounds

abbrev pub net_depth : Net → ℕ
net_depth net = if_any formula_depth net.value

abbrev pub valuation_depth : Valuation → ℕ
valuation_depth valuation = formula_depth valuation.value

abbrev pub drive_depth : Drive → ℕ
drive_depth drive = max (target_depth drive.target) (formula_depth drive.value)

abbrev pub gate_drive_depth : GateDrive → ℕ
gate_drive_depth drive = max (greatest target_depth drive.outputs) (formula_depth drive.value)

abbrev pub happening_depth : Happening → ℕ
happening_depth (Edge edge at name) = 0
happening_depth (Change name) = 0
happening_depth (ChangeBit name index) = formula_depth index
happening_depth (ChangePart name msb lsb) = max (formula_depth msb) (formula_depth lsb)

abbrev pub sensitivity_depth : Sensitivity → ℕ
sensitivity_depth Star = 0
sensitivity_depth StarInParens = 0
sensitivity_depth (Listed events) = greatest happening_depth events

abbrev pub positional_depth : Positional → ℕ
positional_depth argument = if_any formula_depth argument.value

abbrev pub associated_depth : Associated → ℕ
associated_depth argument = if_any formula_depth argument.value

abbrev pub association_depth : Association → ℕ
association_depth (ByPosition arguments) = greatest positional_depth arguments
association_depth (ByName arguments) = greatest associated_depth arguments

abbrev pub instantiation_depth : Instantiation → ℕ
instantiation_depth instantiation = association_depth instantiation.connections

-- what stands directly in an item has depth 1
abbrev pub item_depth : ModuleItem → ℕ
item_depth (Ports head names) = head_depth head
item_depth (Nets at signed bounds nets) = max (if_any bounds_depth bounds) (greatest net_depth nets)
item_depth (Variables at signed bounds variables) = if_any bounds_depth bounds
item_depth (Integers at names) = 0
item_depth (Parameters at kind bounds values) =
    max (if_any bounds_depth bounds) (greatest valuation_depth values)
item_depth (Drives at pause drives) = max (if_any pause_depth pause) (greatest drive_depth drives)
item_depth (Gates at names pause drives) = max (if_any pause_depth pause) (greatest gate_drive_depth drives)
item_depth (Always at sensitivity body) = max (sensitivity_depth sensitivity) (action_depth body)
item_depth (Instances child parameters instantiations) =
    max (association_depth parameters) (greatest instantiation_depth instantiations)

abbrev pub gate_span_depth : GateSpan → ℕ
gate_span_depth (One span) = span_depth span
gate_span_depth (Two rise fall) = max (formula_depth rise) (formula_depth fall)

abbrev pub gate_pause_depth : GatePause → ℕ
gate_pause_depth pause = gate_span_depth pause.span

abbrev pub gate_depth : Gate → ℕ
gate_depth gate = max (target_depth gate.output) (greatest formula_depth gate.terminals)

-- a terminal stands directly in its item; a generate construct is a statement, and what stands in an item in it stands in it
abbrev mutual
  pub written_depth : WrittenItem → ℕ
  written_depth (Plain item) = item_depth item
  written_depth (Primitives at kind pause gates) =
      max (if_any gate_pause_depth pause) (greatest gate_depth gates)
  written_depth (Genvars at names) = 0
  written_depth (Region at items) = 1 + written_items_depth items
  written_depth (generate.If at condition taken) = 1 + max (formula_depth condition) (made_depth taken)
  written_depth (generate.IfElse at condition taken otherwise) =
      1 + max (formula_depth condition) (max (made_depth taken) (made_depth otherwise))
  written_depth (generate.Case at selector choices) = 1 + max (formula_depth selector) (choices_depth choices)
  written_depth (generate.For at index start condition stepped step body) =
      1 + max
      (formula_depth start)
      (max (formula_depth condition) (max (formula_depth step) (made_depth body)))

  pub written_items_depth : WrittenItems → ℕ
  written_items_depth no_items = 0
  written_items_depth (more_items first others) = max (written_depth first) (written_items_depth others)

  pub made_depth : GenerateBlock → ℕ
  made_depth (generate.Null at) = 1
  made_depth (Single item) = written_depth item
  made_depth (generate.Block at label items) = 1 + written_items_depth items

  pub choice_depth : GenerateChoice → ℕ
  choice_depth (generate.Labelled labels body) = max (greatest formula_depth labels) (made_depth body)
  choice_depth (generate.Default at body) = made_depth body

  pub choices_depth : GenerateChoices → ℕ
  choices_depth no_choices = 0
  choices_depth (more_choices first others) = max (choice_depth first) (choices_depth others)

abbrev pub header_parameter_depth : HeaderParameter → ℕ
header_parameter_depth parameter =
    max
    (if_any (λ heading. if_any bounds_depth heading.bounds) parameter.heading)
    (formula_depth parameter.value)

abbrev pub header_port_depth : HeaderPort → ℕ
header_port_depth port = if_any head_depth port.head

abbrev pub header_depth : Header → ℕ
header_depth Absent = 0
header_depth Empty = 0
header_depth (Declared ports) = greatest header_port_depth ports
header_depth (modules.Named names) = 0

-- the greatest depth of an expression or statement in a module
abbrev pub depth : WrittenCircuit → ℕ
depth circuit =
    max
    (greatest header_parameter_depth circuit.parameters)
    (max (header_depth circuit.header) (greatest written_depth circuit.items))
