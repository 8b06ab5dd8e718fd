-- How much a copy of an item takes: a number for each node of its trees, and one for each byte of its names.
-- Worked examples: proofs/Examples.antt.
use Rattle.std.specs.Prelude.{ℕ, ◌+◌, length, List, [], ◌∷◌, Option, None, Some}
use Rattle.rtl_tree.specs.TreeExpr.{Identifier, Formula, Number, Read, ReadBit, ReadPart, Parens, Apply, Concat, Repeat, Unary, Binary, Choose, Formulas, no_formulas, more_formulas, Bounds}
use Rattle.rtl_tree.specs.TreeStmt.{Target, Whole, Bit, Part, Joined, Targets, no_targets, more_targets, Span, Fixed, Named, Valued, Pause, Action, Null, Delayed, Assign, If, IfElse, Case, For, Block, Actions, no_actions, more_actions, Branch, Labelled, Default, Branches, no_branches, more_branches}
use Rattle.rtl_tree.specs.TreeItem.{Head, Net, Variable, Valuation, Drive, GateDrive, Happening, Edge, Change, ChangeBit, ChangePart, Sensitivity, Star, StarInParens, Listed, Positional, Associated, Association, ByPosition, ByName, Instantiation, ModuleItem, Ports, Nets, Variables, Integers, Parameters, Drives, Gates, Always, Instances}

-- the sum of the sizes of a list's elements
abbrev pub sizes : {A : Type 0} → (A → ℕ) → List A → ℕ
sizes f [] = 0
sizes f (x ∷ xs) = f x + sizes f xs

-- the size of what may be there, or 0
abbrev pub if_any : {A : Type 0} → (A → ℕ) → Option A → ℕ
if_any f None = 0
if_any f (Some x) = f x

-- a name: itself, and each of its bytes
abbrev pub identifier_size : Identifier → ℕ
identifier_size name = 1 + length name.text

-- an expression: itself, and what stands in it
abbrev mutual
  pub formula_size : Formula → ℕ
  formula_size (Number value at) = 1
  formula_size (Read name) = 1 + identifier_size name
  formula_size (ReadBit name index) = 1 + (identifier_size name + formula_size index)
  formula_size (ReadPart name kind first second) =
      1 + (identifier_size name + (formula_size first + formula_size second))
  formula_size (Parens at inner) = 1 + formula_size inner
  formula_size (Apply function at inner) = 1 + formula_size inner
  formula_size (Concat at parts) = 1 + formulas_size parts
  formula_size (Repeat at times parts) = 1 + (formula_size times + formulas_size parts)
  formula_size (Unary operator at operand) = 1 + formula_size operand
  formula_size (Binary operator at left right) = 1 + (formula_size left + formula_size right)
  formula_size (Choose at condition taken otherwise) =
      1 + (formula_size condition + (formula_size taken + formula_size otherwise))

  -- the sum of a row
  pub formulas_size : Formulas → ℕ
  formulas_size no_formulas = 0
  formulas_size (more_formulas first others) = formula_size first + formulas_size others

-- a range: its two ends
abbrev pub bounds_size : Bounds → ℕ
bounds_size bounds = formula_size bounds.msb + formula_size bounds.lsb

-- a target counts like an expression
abbrev mutual
  pub target_size : Target → ℕ
  target_size (Whole name) = 1 + identifier_size name
  target_size (Bit name index) = 1 + (identifier_size name + formula_size index)
  target_size (Part name kind first second) =
      1 + (identifier_size name + (formula_size first + formula_size second))
  target_size (Joined at parts) = 1 + targets_size parts

  -- the sum of a row
  pub targets_size : Targets → ℕ
  targets_size no_targets = 0
  targets_size (more_targets first others) = target_size first + targets_size others

-- how long a delay is: a number, a name or an expression
abbrev pub span_size : Span → ℕ
span_size (Fixed value) = 1
span_size (Named name) = identifier_size name
span_size (Valued value) = formula_size value

-- a delay takes what its length takes
abbrev pub pause_size : Pause → ℕ
pause_size pause = span_size pause.span

-- a statement: itself, and what stands in it
abbrev mutual
  pub action_size : Action → ℕ
  action_size (Null at) = 1
  action_size (Delayed pause body) = 1 + (pause_size pause + action_size body)
  action_size (Assign target kind pause value) =
      1 + (target_size target + (if_any pause_size pause + formula_size value))
  action_size (If at condition taken) = 1 + (formula_size condition + action_size taken)
  action_size (IfElse at condition taken otherwise) =
      1 + (formula_size condition + (action_size taken + action_size otherwise))
  action_size (Case at kind full parallel selector branches) =
      1 + (formula_size selector + branches_size branches)
  action_size (For at index start condition stepped step body) =
      1
      + (identifier_size index
      + (formula_size start
      + (formula_size condition + (identifier_size stepped + (formula_size step + action_size body)))))
  action_size (Block at label body) = 1 + (if_any identifier_size label + actions_size body)

  -- the sum of a row
  pub actions_size : Actions → ℕ
  actions_size no_actions = 0
  actions_size (more_actions first others) = action_size first + actions_size others

  -- an item of a case: its labels and its statement
  pub branch_size : Branch → ℕ
  branch_size (Labelled labels body) = sizes formula_size labels + action_size body
  branch_size (Default at body) = action_size body

  -- the sum of a row
  pub branches_size : Branches → ℕ
  branches_size no_branches = 0
  branches_size (more_branches first others) = branch_size first + branches_size others

-- what stands before the names of ports: a range, where one is written
abbrev pub head_size : Head → ℕ
head_size head = if_any bounds_size head.bounds

-- a net that is declared, and what drives it
abbrev pub net_size : Net → ℕ
net_size net = identifier_size net.name + if_any formula_size net.value

-- a variable that is declared
abbrev pub variable_size : Variable → ℕ
variable_size variable = identifier_size variable.name

-- a name and its value
abbrev pub valuation_size : Valuation → ℕ
valuation_size valuation = identifier_size valuation.name + formula_size valuation.value

-- a target and its value
abbrev pub drive_size : Drive → ℕ
drive_size drive = target_size drive.target + formula_size drive.value

-- a gate's outputs and their value
abbrev pub gate_drive_size : GateDrive → ℕ
gate_drive_size drive = sizes target_size drive.outputs + formula_size drive.value

-- an event: itself, and what stands in it
abbrev pub happening_size : Happening → ℕ
happening_size (Edge edge at name) = 1 + identifier_size name
happening_size (Change name) = 1 + identifier_size name
happening_size (ChangeBit name index) = 1 + (identifier_size name + formula_size index)
happening_size (ChangePart name msb lsb) =
    1 + (identifier_size name + (formula_size msb + formula_size lsb))

-- what an always waits for: its events, where they are listed
abbrev pub sensitivity_size : Sensitivity → ℕ
sensitivity_size Star = 0
sensitivity_size StarInParens = 0
sensitivity_size (Listed events) = sizes happening_size events

-- an argument by position: itself, and its value
abbrev pub positional_size : Positional → ℕ
positional_size argument = 1 + if_any formula_size argument.value

-- an argument by name: itself, its name and its value
abbrev pub associated_size : Associated → ℕ
associated_size argument =
    1 + (identifier_size argument.name + if_any formula_size argument.value)

-- arguments take what each of them takes
abbrev pub association_size : Association → ℕ
association_size (ByPosition arguments) = sizes positional_size arguments
association_size (ByName arguments) = sizes associated_size arguments

-- an instance: itself, its name and its connections
abbrev pub instantiation_size : Instantiation → ℕ
instantiation_size instantiation =
    1 + (identifier_size instantiation.name + association_size instantiation.connections)

-- an item: itself, and what stands in it
abbrev pub item_size : ModuleItem → ℕ
item_size (Ports head names) = 1 + (head_size head + sizes identifier_size names)
item_size (Nets at signed bounds nets) = 1 + (if_any bounds_size bounds + sizes net_size nets)
item_size (Variables at signed bounds variables) =
    1 + (if_any bounds_size bounds + sizes variable_size variables)
item_size (Integers at names) = 1 + sizes identifier_size names
item_size (Parameters at kind bounds values) =
    1 + (if_any bounds_size bounds + sizes valuation_size values)
item_size (Drives at pause drives) = 1 + (if_any pause_size pause + sizes drive_size drives)
item_size (Gates at names pause drives) =
    1 + (sizes identifier_size names + (if_any pause_size pause + sizes gate_drive_size drives))
item_size (Always at sensitivity body) = 1 + (sensitivity_size sensitivity + action_size body)
item_size (Instances child parameters instantiations) =
    1
    + (identifier_size child
    + (association_size parameters + sizes instantiation_size instantiations))
