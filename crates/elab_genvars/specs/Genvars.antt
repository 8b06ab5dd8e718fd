-- Where an item uses a genvar that it may not: one that has no number there, or whose bits it selects (IEEE 1364-2001 section
-- 12.1.3). Of the names of a module those that are an `integer` are genvars here, with their numbers in the turns of their loops.
-- Worked examples: proofs/Examples.antt.
use Rattle.std.specs.Prelude.{Bool, true, false, List, [], ◌∷◌, ◌++◌, Option, None, Some}
use Rattle.std.specs.List.{flat_map}
use Rattle.rtl_tree.specs.TreeExpr.{Identifier, Formula, Number, Read, ReadBit, ReadPart, Parens, Apply, Concat, Repeat, Unary, Binary, Choose, Formulas, no_formulas, more_formulas, Bounds}
use Rattle.rtl_tree.specs.TreeStmt.{Target, Whole, Bit, Part, Joined, Targets, no_targets, more_targets, Span, Fixed, Named, Valued, Pause, Action, Null, Delayed, Assign, If, IfElse, Case, For, Block, Actions, no_actions, more_actions, Branch, Labelled, Default, Branches, no_branches, more_branches}
use Rattle.rtl_tree.specs.TreeItem.{Head, Net, Valuation, Drive, GateDrive, Happening, Edge, Change, ChangeBit, ChangePart, Sensitivity, Star, StarInParens, Listed, Positional, Associated, Association, ByPosition, ByName, Instantiation, ModuleItem, Ports, Nets, Variables, Integers, Parameters, Drives, Gates, Always, Instances}
use Rattle.std.specs.Borrow.{Bor}
use Rattle.rtl_tree.specs.declared.tree.names.Name.{Name}
use Rattle.elab_scope.specs.declared.known.Known.{Known}
use Rattle.elab_scope.specs.declared.known.Known.TheVariants.{Integer}
use Rattle.elab_scope.specs.Faults.{Refusal, Genvar}
use Rattle.elab_scope.specs.Names.{Meanings}
use Rattle.elab_scope.specs.Rules.{fault}

-- what is told of the use of a name that stands for this: a genvar has a number, and no bits to select
abbrev pub use_faults : Bool → Identifier → Option Known → List Refusal
use_faults selected name (Some (Integer None)) = fault name.at (Genvar name.text) ∷ []
use_faults true name (Some (Integer (Some number))) = fault name.at (Genvar name.text) ∷ []
use_faults selected name known = []

-- what is told of a name
abbrev pub told_of : Bor Name → Refusal
told_of name = record { at = name.now.at; breach = Genvar name.now.text }

-- the use of a name, of which bits are selected or not
abbrev pub genvar_faults : Meanings → Bool → Identifier → List Refusal
genvar_faults scope selected name = use_faults selected name (scope name.text)

-- the uses in what may be there
abbrev pub in_any : {A : Type 0} → (A → List Refusal) → Option A → List Refusal
in_any f None = []
in_any f (Some x) = f x

-- the uses in an expression, in the order of the text
abbrev mutual
  pub formula_genvars : Meanings → Formula → List Refusal
  formula_genvars scope (Number value at) = []
  formula_genvars scope (Read name) = genvar_faults scope false name
  formula_genvars scope (ReadBit name index) =
      genvar_faults scope true name ++ formula_genvars scope index
  formula_genvars scope (ReadPart name kind first second) =
      genvar_faults scope true name
      ++ formula_genvars scope first
      ++ formula_genvars scope second
  formula_genvars scope (Parens at inner) = formula_genvars scope inner
  formula_genvars scope (Apply function at inner) = formula_genvars scope inner
  formula_genvars scope (Concat at parts) = formulas_genvars scope parts
  formula_genvars scope (Repeat at times parts) =
      formula_genvars scope times ++ formulas_genvars scope parts
  formula_genvars scope (Unary operator at operand) = formula_genvars scope operand
  formula_genvars scope (Binary operator at left right) =
      formula_genvars scope left ++ formula_genvars scope right
  formula_genvars scope (Choose at condition taken otherwise) =
      formula_genvars scope condition
      ++ formula_genvars scope taken
      ++ formula_genvars scope otherwise

  pub formulas_genvars : Meanings → Formulas → List Refusal
  formulas_genvars scope no_formulas = []
  formulas_genvars scope (more_formulas first others) =
      formula_genvars scope first ++ formulas_genvars scope others

-- the uses in a range
abbrev pub bounds_genvars : Meanings → Bounds → List Refusal
bounds_genvars scope bounds = formula_genvars scope bounds.msb ++ formula_genvars scope bounds.lsb

-- the uses in a target, whose names are used as those of an expression
abbrev mutual
  pub target_genvars : Meanings → Target → List Refusal
  target_genvars scope (Whole name) = genvar_faults scope false name
  target_genvars scope (Bit name index) =
      genvar_faults scope true name ++ formula_genvars scope index
  target_genvars scope (Part name kind first second) =
      genvar_faults scope true name
      ++ formula_genvars scope first
      ++ formula_genvars scope second
  target_genvars scope (Joined at parts) = targets_genvars scope parts

  pub targets_genvars : Meanings → Targets → List Refusal
  targets_genvars scope no_targets = []
  targets_genvars scope (more_targets first others) =
      target_genvars scope first ++ targets_genvars scope others

-- the uses in how long a delay is
abbrev pub span_genvars : Meanings → Span → List Refusal
span_genvars scope (Fixed value) = []
span_genvars scope (Named name) = genvar_faults scope false name
span_genvars scope (Valued value) = formula_genvars scope value

-- the uses in a delay
abbrev pub pause_genvars : Meanings → Pause → List Refusal
pause_genvars scope pause = span_genvars scope pause.span

-- the uses in a statement; a loop uses its index where it starts and where it steps, and a label is no use
abbrev mutual
  pub action_genvars : Meanings → Action → List Refusal
  action_genvars scope (Null at) = []
  action_genvars scope (Delayed pause body) = pause_genvars scope pause ++ action_genvars scope body
  action_genvars scope (Assign target kind pause value) =
      target_genvars scope target
      ++ in_any (pause_genvars scope) pause
      ++ formula_genvars scope value
  action_genvars scope (If at condition taken) =
      formula_genvars scope condition ++ action_genvars scope taken
  action_genvars scope (IfElse at condition taken otherwise) =
      formula_genvars scope condition
      ++ action_genvars scope taken
      ++ action_genvars scope otherwise
  action_genvars scope (Case at kind full parallel selector branches) =
      formula_genvars scope selector ++ branches_genvars scope branches
  action_genvars scope (For at index start condition stepped step body) =
      genvar_faults scope false index
      ++ formula_genvars scope start
      ++ formula_genvars scope condition
      ++ genvar_faults scope false stepped
      ++ formula_genvars scope step
      ++ action_genvars scope body
  action_genvars scope (Block at label body) = actions_genvars scope body

  pub actions_genvars : Meanings → Actions → List Refusal
  actions_genvars scope no_actions = []
  actions_genvars scope (more_actions first others) =
      action_genvars scope first ++ actions_genvars scope others

  pub branch_genvars : Meanings → Branch → List Refusal
  branch_genvars scope (Labelled labels body) =
      flat_map (formula_genvars scope) labels ++ action_genvars scope body
  branch_genvars scope (Default at body) = action_genvars scope body

  pub branches_genvars : Meanings → Branches → List Refusal
  branches_genvars scope no_branches = []
  branches_genvars scope (more_branches first others) =
      branch_genvars scope first ++ branches_genvars scope others

-- the uses in what stands before the names of ports
abbrev pub head_genvars : Meanings → Head → List Refusal
head_genvars scope head = in_any (bounds_genvars scope) head.bounds

-- the uses in what drives a net from its declaration on
abbrev pub net_genvars : Meanings → Net → List Refusal
net_genvars scope net = in_any (formula_genvars scope) net.value

-- the uses in the value of a parameter
abbrev pub valuation_genvars : Meanings → Valuation → List Refusal
valuation_genvars scope valuation = formula_genvars scope valuation.value

-- the uses in a continuous assignment
abbrev pub drive_genvars : Meanings → Drive → List Refusal
drive_genvars scope drive = target_genvars scope drive.target ++ formula_genvars scope drive.value

-- the uses in what a gate drives
abbrev pub gate_drive_genvars : Meanings → GateDrive → List Refusal
gate_drive_genvars scope drive =
    flat_map (target_genvars scope) drive.outputs ++ formula_genvars scope drive.value

-- the uses in an event
abbrev pub happening_genvars : Meanings → Happening → List Refusal
happening_genvars scope (Edge edge at name) = genvar_faults scope false name
happening_genvars scope (Change name) = genvar_faults scope false name
happening_genvars scope (ChangeBit name index) =
    genvar_faults scope true name ++ formula_genvars scope index
happening_genvars scope (ChangePart name msb lsb) =
    genvar_faults scope true name ++ formula_genvars scope msb ++ formula_genvars scope lsb

-- the uses in what an always waits for
abbrev pub sensitivity_genvars : Meanings → Sensitivity → List Refusal
sensitivity_genvars scope Star = []
sensitivity_genvars scope StarInParens = []
sensitivity_genvars scope (Listed events) = flat_map (happening_genvars scope) events

-- the uses in an argument by position
abbrev pub positional_genvars : Meanings → Positional → List Refusal
positional_genvars scope argument = in_any (formula_genvars scope) argument.value

-- the uses in an argument by name, which is a name of the module that is placed
abbrev pub associated_genvars : Meanings → Associated → List Refusal
associated_genvars scope argument = in_any (formula_genvars scope) argument.value

-- the uses in arguments
abbrev pub association_genvars : Meanings → Association → List Refusal
association_genvars scope (ByPosition arguments) = flat_map (positional_genvars scope) arguments
association_genvars scope (ByName arguments) = flat_map (associated_genvars scope) arguments

-- the uses in the connections of an instance
abbrev pub instantiation_genvars : Meanings → Instantiation → List Refusal
instantiation_genvars scope instantiation = association_genvars scope instantiation.connections

-- the uses in an item, in the order of the text; names that it declares are no uses, nor is the name of a module
abbrev pub item_genvars : Meanings → ModuleItem → List Refusal
item_genvars scope (Ports head names) = head_genvars scope head
item_genvars scope (Nets at signed bounds nets) =
    in_any (bounds_genvars scope) bounds ++ flat_map (net_genvars scope) nets
item_genvars scope (Variables at signed bounds variables) = in_any (bounds_genvars scope) bounds
item_genvars scope (Integers at names) = []
item_genvars scope (Parameters at kind bounds values) =
    in_any (bounds_genvars scope) bounds ++ flat_map (valuation_genvars scope) values
item_genvars scope (Drives at pause drives) =
    in_any (pause_genvars scope) pause ++ flat_map (drive_genvars scope) drives
item_genvars scope (Gates at names pause drives) =
    in_any (pause_genvars scope) pause ++ flat_map (gate_drive_genvars scope) drives
item_genvars scope (Always at sensitivity body) =
    sensitivity_genvars scope sensitivity ++ action_genvars scope body
item_genvars scope (Instances child parameters instantiations) =
    association_genvars scope parameters ++ flat_map (instantiation_genvars scope) instantiations
