-- Where expressions and statements are nested too deep: the places of those that stand deeper than a number, as `Depth` counts.
-- Worked examples: crates/tests_layers/stdin.
use Rattle.std.specs.Prelude.{ℕ, zero, suc, ◌-◌, ◌≤◌, List, [], ◌∷◌, ◌++◌, Option, Some, None}
use Rattle.std.specs.List.{All, Contains, flat_map}
use Rattle.rtl_tree.specs.TreeExpr.{Formula, Number, Read, ReadBit, ReadPart, Parens, Apply, Concat, Repeat, Unary, Binary, Choose, Formulas, no_formulas, more_formulas, Bounds}
use Rattle.rtl_tree.specs.TreeStmt.{Target, Whole, Bit, Part, Joined, Targets, no_targets, more_targets, Span, Fixed, Named, Valued, Pause, Action, Null, Delayed, Assign, If, IfElse, Case, For, Block, Actions, no_actions, more_actions, Branch, Labelled, Default, Branches, no_branches, more_branches, target_place}
use Rattle.rtl_tree.specs.TreeItem.{Head, Net, Valuation, Drive, GateDrive, Happening, Edge, Change, ChangeBit, ChangePart, Sensitivity, Star, StarInParens, Listed, Positional, Associated, Association, ByPosition, ByName, Instantiation, ModuleItem, Ports, Nets, Variables, Integers, Parameters, Drives, Gates, Always, Instances}
use Rattle.rtl_tree.specs.TreeGate.{GateSpan, One, Two, GatePause, Gate}
use Rattle.rtl_tree.specs.TreeWritten.{WrittenItem, Plain, Primitives, Genvars, Region, WrittenItems, no_items, more_items, GenerateBlock, Single, GenerateChoice, GenerateChoices, no_choices, more_choices}
use Rattle.rtl_tree.specs.TreeWritten as generate
use Rattle.rtl_tree.specs.TreeModule.{HeaderParameter, HeaderPort, Header, Absent, Empty, Declared, WrittenCircuit}
use Rattle.rtl_tree.specs.TreeModule as modules
use Rattle.text_grammar.specs.declared.nesting.TheConstants.{MAX_NESTING}

-- the places of what may be there
abbrev pub of_any : {A : Type 0} → (A → List ℕ) → Option A → List ℕ
of_any f None = []
of_any f (Some x) = f x

-- the place of what has depth 1, where that is deeper than `k`
abbrev pub here : ℕ → ℕ → List ℕ
here zero at = at ∷ []
here (suc k) at = []

abbrev mutual
  -- the places of an expression of depth 1 and of those in it, of all that are deeper than `k`
  pub formula_deeper : ℕ → Formula → List ℕ
  formula_deeper k (Number value at) = here k at
  formula_deeper k (Read name) = here k name.at
  formula_deeper k (ReadBit name index) = here k name.at ++ formula_deeper (k - 1) index
  formula_deeper k (ReadPart name kind first second) = here k name.at ++ formula_deeper (k - 1) first ++ formula_deeper (k - 1) second
  formula_deeper k (Parens at inner) = here k at ++ formula_deeper (k - 1) inner
  formula_deeper k (Apply function at inner) = here k at ++ formula_deeper (k - 1) inner
  formula_deeper k (Concat at parts) = here k at ++ formulas_deeper (k - 1) parts
  formula_deeper k (Repeat at times parts) = here k at ++ formula_deeper (k - 1) times ++ formulas_deeper (k - 1) parts
  formula_deeper k (Unary operator at operand) = here k at ++ formula_deeper (k - 1) operand
  formula_deeper k (Binary operator at left right) =
      here k at ++ formula_deeper (k - 1) left ++ formula_deeper (k - 1) right
  formula_deeper k (Choose at condition taken otherwise) =
      here k at ++ formula_deeper (k - 1) condition ++ formula_deeper (k - 1) taken ++ formula_deeper (k - 1) otherwise

  pub formulas_deeper : ℕ → Formulas → List ℕ
  formulas_deeper k no_formulas = []
  formulas_deeper k (more_formulas first others) = formula_deeper k first ++ formulas_deeper k others

abbrev pub bounds_deeper : ℕ → Bounds → List ℕ
bounds_deeper k bounds = formula_deeper k bounds.msb ++ formula_deeper k bounds.lsb

abbrev mutual
  pub target_deeper : ℕ → Target → List ℕ
  target_deeper k (Whole name) = here k name.at
  target_deeper k (Bit name index) = here k name.at ++ formula_deeper (k - 1) index
  target_deeper k (Part name kind first second) = here k name.at ++ formula_deeper (k - 1) first ++ formula_deeper (k - 1) second
  target_deeper k (Joined at parts) = here k at ++ targets_deeper (k - 1) parts

  pub targets_deeper : ℕ → Targets → List ℕ
  targets_deeper k no_targets = []
  targets_deeper k (more_targets first others) = target_deeper k first ++ targets_deeper k others

abbrev pub span_deeper : ℕ → Span → List ℕ
span_deeper k (Fixed value) = []
span_deeper k (Named name) = []
span_deeper k (Valued value) = formula_deeper k value

abbrev pub pause_deeper : ℕ → Pause → List ℕ
pause_deeper k pause = span_deeper k pause.span

abbrev mutual
  -- the places of a statement of depth 1 and of what stands in it, of all that are deeper than `k`
  pub action_deeper : ℕ → Action → List ℕ
  action_deeper k (Null at) = here k at
  action_deeper k (Delayed pause body) = here k pause.at ++ pause_deeper (k - 1) pause ++ action_deeper (k - 1) body
  action_deeper k (Assign target kind pause value) =
      here k (target_place target) ++ target_deeper (k - 1) target ++ of_any (pause_deeper (k - 1)) pause ++ formula_deeper (k - 1) value
  action_deeper k (If at condition taken) = here k at ++ formula_deeper (k - 1) condition ++ action_deeper (k - 1) taken
  action_deeper k (IfElse at condition taken otherwise) =
      here k at ++ formula_deeper (k - 1) condition ++ action_deeper (k - 1) taken ++ action_deeper (k - 1) otherwise
  action_deeper k (Case at kind full parallel selector branches) =
      here k at ++ formula_deeper (k - 1) selector ++ branches_deeper (k - 1) branches
  action_deeper k (For at index start condition stepped step body) =
      here k at ++ formula_deeper (k - 1) start ++ formula_deeper (k - 1) condition ++ formula_deeper (k - 1) step ++ action_deeper (k - 1) body
  action_deeper k (Block at label body) = here k at ++ actions_deeper (k - 1) body

  pub actions_deeper : ℕ → Actions → List ℕ
  actions_deeper k no_actions = []
  actions_deeper k (more_actions first others) = action_deeper k first ++ actions_deeper k others

  pub branch_deeper : ℕ → Branch → List ℕ
  branch_deeper k (Labelled labels body) = flat_map (formula_deeper k) labels ++ action_deeper k body
  branch_deeper k (Default at body) = action_deeper k body

  pub branches_deeper : ℕ → Branches → List ℕ
  branches_deeper k no_branches = []
  branches_deeper k (more_branches first others) = branch_deeper k first ++ branches_deeper k others

abbrev pub head_deeper : ℕ → Head → List ℕ
head_deeper k head = of_any (bounds_deeper k) head.bounds

abbrev pub net_deeper : ℕ → Net → List ℕ
net_deeper k net = of_any (formula_deeper k) net.value

abbrev pub valuation_deeper : ℕ → Valuation → List ℕ
valuation_deeper k valuation = formula_deeper k valuation.value

abbrev pub drive_deeper : ℕ → Drive → List ℕ
drive_deeper k drive = target_deeper k drive.target ++ formula_deeper k drive.value

abbrev pub gate_drive_deeper : ℕ → GateDrive → List ℕ
gate_drive_deeper k drive = flat_map (target_deeper k) drive.outputs ++ formula_deeper k drive.value

abbrev pub happening_deeper : ℕ → Happening → List ℕ
happening_deeper k (Edge edge at name) = []
happening_deeper k (Change name) = []
happening_deeper k (ChangeBit name index) = formula_deeper k index
happening_deeper k (ChangePart name msb lsb) = formula_deeper k msb ++ formula_deeper k lsb

abbrev pub sensitivity_deeper : ℕ → Sensitivity → List ℕ
sensitivity_deeper k Star = []
sensitivity_deeper k StarInParens = []
sensitivity_deeper k (Listed events) = flat_map (happening_deeper k) events

abbrev pub positional_deeper : ℕ → Positional → List ℕ
positional_deeper k argument = of_any (formula_deeper k) argument.value

abbrev pub associated_deeper : ℕ → Associated → List ℕ
associated_deeper k argument = of_any (formula_deeper k) argument.value

abbrev pub association_deeper : ℕ → Association → List ℕ
association_deeper k (ByPosition arguments) = flat_map (positional_deeper k) arguments
association_deeper k (ByName arguments) = flat_map (associated_deeper k) arguments

abbrev pub instantiation_deeper : ℕ → Instantiation → List ℕ
instantiation_deeper k instantiation = association_deeper k instantiation.connections

-- what stands directly in an item has depth 1
abbrev pub item_deeper : ℕ → ModuleItem → List ℕ
item_deeper k (Ports head names) = head_deeper k head
item_deeper k (Nets at signed bounds nets) = of_any (bounds_deeper k) bounds ++ flat_map (net_deeper k) nets
item_deeper k (Variables at signed bounds variables) = of_any (bounds_deeper k) bounds
item_deeper k (Integers at names) = []
item_deeper k (Parameters at kind bounds values) = of_any (bounds_deeper k) bounds ++ flat_map (valuation_deeper k) values
item_deeper k (Drives at pause drives) = of_any (pause_deeper k) pause ++ flat_map (drive_deeper k) drives
item_deeper k (Gates at names pause drives) = of_any (pause_deeper k) pause ++ flat_map (gate_drive_deeper k) drives
item_deeper k (Always at sensitivity body) = sensitivity_deeper k sensitivity ++ action_deeper k body
item_deeper k (Instances child parameters instantiations) =
    association_deeper k parameters ++ flat_map (instantiation_deeper k) instantiations

abbrev pub gate_span_deeper : ℕ → GateSpan → List ℕ
gate_span_deeper k (One span) = span_deeper k span
gate_span_deeper k (Two rise fall) = formula_deeper k rise ++ formula_deeper k fall

abbrev pub gate_pause_deeper : ℕ → GatePause → List ℕ
gate_pause_deeper k pause = gate_span_deeper k pause.span

abbrev pub gate_deeper : ℕ → Gate → List ℕ
gate_deeper k gate = target_deeper k gate.output ++ flat_map (formula_deeper k) gate.terminals

abbrev mutual
  -- a generate construct is a statement, and what stands in an item in it stands in it
  pub written_deeper : ℕ → WrittenItem → List ℕ
  written_deeper k (Plain item) = item_deeper k item
  written_deeper k (Primitives at kind pause gates) = of_any (gate_pause_deeper k) pause ++ flat_map (gate_deeper k) gates
  written_deeper k (Genvars at names) = []
  written_deeper k (Region at items) = here k at ++ written_items_deeper (k - 1) items
  written_deeper k (generate.If at condition taken) = here k at ++ formula_deeper (k - 1) condition ++ made_deeper (k - 1) taken
  written_deeper k (generate.IfElse at condition taken otherwise) =
      here k at ++ formula_deeper (k - 1) condition ++ made_deeper (k - 1) taken ++ made_deeper (k - 1) otherwise
  written_deeper k (generate.Case at selector choices) = here k at ++ formula_deeper (k - 1) selector ++ choices_deeper (k - 1) choices
  written_deeper k (generate.For at index start condition stepped step body) =
      here k at ++ formula_deeper (k - 1) start ++ formula_deeper (k - 1) condition ++ formula_deeper (k - 1) step ++ made_deeper (k - 1) body

  pub written_items_deeper : ℕ → WrittenItems → List ℕ
  written_items_deeper k no_items = []
  written_items_deeper k (more_items first others) = written_deeper k first ++ written_items_deeper k others

  pub made_deeper : ℕ → GenerateBlock → List ℕ
  made_deeper k (generate.Null at) = here k at
  made_deeper k (Single item) = written_deeper k item
  made_deeper k (generate.Block at label items) = here k at ++ written_items_deeper (k - 1) items

  pub choice_deeper : ℕ → GenerateChoice → List ℕ
  choice_deeper k (generate.Labelled labels body) = flat_map (formula_deeper k) labels ++ made_deeper k body
  choice_deeper k (generate.Default at body) = made_deeper k body

  pub choices_deeper : ℕ → GenerateChoices → List ℕ
  choices_deeper k no_choices = []
  choices_deeper k (more_choices first others) = choice_deeper k first ++ choices_deeper k others

abbrev pub header_parameter_deeper : ℕ → HeaderParameter → List ℕ
header_parameter_deeper k parameter =
    of_any (λ heading. of_any (bounds_deeper k) heading.bounds) parameter.heading ++ formula_deeper k parameter.value

abbrev pub header_port_deeper : ℕ → HeaderPort → List ℕ
header_port_deeper k port = of_any (head_deeper k) port.head

abbrev pub header_deeper : ℕ → Header → List ℕ
header_deeper k Absent = []
header_deeper k Empty = []
header_deeper k (Declared ports) = flat_map (header_port_deeper k) ports
header_deeper k (modules.Named names) = []

-- the places in a module, of all expressions and statements that are deeper than `k`
abbrev pub deeper : ℕ → WrittenCircuit → List ℕ
deeper k circuit =
    flat_map (header_parameter_deeper k) circuit.parameters ++ header_deeper k circuit.header ++ flat_map (written_deeper k) circuit.items

-- the places in these modules, of all that is nested too deep
abbrev pub too_deep : List WrittenCircuit → List ℕ
too_deep circuits = flat_map (deeper MAX_NESTING) circuits

-- a place of a list, and none of them is less
pub record IsLeastPlace (places : List ℕ) (place : ℕ) : Type 0 where
  pub there : Contains places place
  pub least : All (λ other. place ≤ other) places
