-- Copies of what a module holds, with other names: each name of something of the module itself is renamed where it is declared and
-- where it is used. The module that an instance is of, the names of its ports and parameters, and the labels of blocks stay, as do
-- places, kinds, numbers and flags.
-- Worked examples: crates/elab_renames/proofs/Examples.antt.
use Rattle.std.specs.Prelude.{ℕ, List, ◌++◌, map, if◌then◌else◌}
use Rattle.std.specs.Option.{is_some, option_map}
use Rattle.rtl_tree.specs.TreeExpr.{Identifier, Formula, Number, Read, ReadBit, ReadPart, Parens, Apply, Concat, Repeat, Unary, Binary, Choose, Formulas, no_formulas, more_formulas, Bounds}
use Rattle.rtl_tree.specs.TreeStmt.{Target, Whole, Bit, Part, Joined, Targets, no_targets, more_targets, Span, Fixed, Named, Valued, Pause, Action, Null, Delayed, Assign, If, IfElse, Case, For, Block, Actions, no_actions, more_actions, Branch, Labelled, Default, Branches, no_branches, more_branches}
use Rattle.rtl_tree.specs.TreeItem.{Head, Net, Variable, Valuation, Drive, GateDrive, Happening, Edge, Change, ChangeBit, ChangePart, Sensitivity, Star, StarInParens, Listed, Positional, Associated, Association, ByPosition, ByName, Instantiation, ModuleItem, Ports, Nets, Variables, Integers, Parameters, Drives, Gates, Always, Instances}
use Rattle.elab_scope.specs.Names.{Meanings, meanings}
use Rattle.elab_renames.specs.declared.naming.Naming.{Naming}

-- the names that are declared in a scope, with a component before them; all others as they are
unfoldable pub named : Meanings → List ℕ → List ℕ → List ℕ
named scope component = λ name. if is_some (scope name) then component ++ name else name

-- how a naming renames
abbrev pub renaming : Naming → List ℕ → List ℕ
renaming naming = named (meanings naming.names.now) naming.component.now

-- ---- expressions

-- a name, at its place
abbrev pub renamed_identifier : (List ℕ → List ℕ) → Identifier → Identifier
renamed_identifier f name = record { text = f name.text; at = name.at }

abbrev mutual
  -- an expression
  pub renamed_formula : (List ℕ → List ℕ) → Formula → Formula
  renamed_formula f (Number value at) = Number value at
  renamed_formula f (Read name) = Read (renamed_identifier f name)
  renamed_formula f (ReadBit name index) =
      ReadBit (renamed_identifier f name) (renamed_formula f index)
  renamed_formula f (ReadPart name kind first second) =
      ReadPart (renamed_identifier f name) kind (renamed_formula f first) (renamed_formula f second)
  renamed_formula f (Parens at inner) = Parens at (renamed_formula f inner)
  renamed_formula f (Apply function at inner) = Apply function at (renamed_formula f inner)
  renamed_formula f (Concat at parts) = Concat at (renamed_formulas f parts)
  renamed_formula f (Repeat at times parts) =
      Repeat at (renamed_formula f times) (renamed_formulas f parts)
  renamed_formula f (Unary operator at operand) = Unary operator at (renamed_formula f operand)
  renamed_formula f (Binary operator at left right) =
      Binary operator at (renamed_formula f left) (renamed_formula f right)
  renamed_formula f (Choose at condition taken otherwise) =
      Choose at (renamed_formula f condition) (renamed_formula f taken) (renamed_formula f otherwise)

  -- expressions in a row
  pub renamed_formulas : (List ℕ → List ℕ) → Formulas → Formulas
  renamed_formulas f no_formulas = no_formulas
  renamed_formulas f (more_formulas first others) =
      more_formulas (renamed_formula f first) (renamed_formulas f others)

-- the range of a declaration
abbrev pub renamed_bounds : (List ℕ → List ℕ) → Bounds → Bounds
renamed_bounds f bounds =
    record { at = bounds.at; msb = renamed_formula f bounds.msb; lsb = renamed_formula f bounds.lsb }

-- ---- statements

abbrev mutual
  -- the left side of an assignment
  pub renamed_target : (List ℕ → List ℕ) → Target → Target
  renamed_target f (Whole name) = Whole (renamed_identifier f name)
  renamed_target f (Bit name index) = Bit (renamed_identifier f name) (renamed_formula f index)
  renamed_target f (Part name kind first second) =
      Part (renamed_identifier f name) kind (renamed_formula f first) (renamed_formula f second)
  renamed_target f (Joined at parts) = Joined at (renamed_targets f parts)

  -- targets in a row
  pub renamed_targets : (List ℕ → List ℕ) → Targets → Targets
  renamed_targets f no_targets = no_targets
  renamed_targets f (more_targets first others) =
      more_targets (renamed_target f first) (renamed_targets f others)

-- how long a delay is
abbrev pub renamed_span : (List ℕ → List ℕ) → Span → Span
renamed_span f (Fixed value) = Fixed value
renamed_span f (Named name) = Named (renamed_identifier f name)
renamed_span f (Valued value) = Valued (renamed_formula f value)

-- a delay
abbrev pub renamed_pause : (List ℕ → List ℕ) → Pause → Pause
renamed_pause f pause = record { at = pause.at; span = renamed_span f pause.span }

abbrev mutual
  -- a statement
  pub renamed_action : (List ℕ → List ℕ) → Action → Action
  renamed_action f (Null at) = Null at
  renamed_action f (Delayed pause body) = Delayed (renamed_pause f pause) (renamed_action f body)
  renamed_action f (Assign target kind pause value) =
      Assign (renamed_target f target) kind (option_map (renamed_pause f) pause) (renamed_formula f value)
  renamed_action f (If at condition taken) =
      If at (renamed_formula f condition) (renamed_action f taken)
  renamed_action f (IfElse at condition taken otherwise) =
      IfElse at (renamed_formula f condition) (renamed_action f taken) (renamed_action f otherwise)
  renamed_action f (Case at kind full parallel selector branches) =
      Case at kind full parallel (renamed_formula f selector) (renamed_branches f branches)
  renamed_action f (For at index start condition stepped step body) =
      For
      at
      (renamed_identifier f index)
      (renamed_formula f start)
      (renamed_formula f condition)
      (renamed_identifier f stepped)
      (renamed_formula f step)
      (renamed_action f body)
  renamed_action f (Block at label body) = Block at label (renamed_actions f body)

  -- statements in a row
  pub renamed_actions : (List ℕ → List ℕ) → Actions → Actions
  renamed_actions f no_actions = no_actions
  renamed_actions f (more_actions first others) =
      more_actions (renamed_action f first) (renamed_actions f others)

  -- an item of a case
  pub renamed_branch : (List ℕ → List ℕ) → Branch → Branch
  renamed_branch f (Labelled labels body) =
      Labelled (map (renamed_formula f) labels) (renamed_action f body)
  renamed_branch f (Default at body) = Default at (renamed_action f body)

  -- items of a case in a row
  pub renamed_branches : (List ℕ → List ℕ) → Branches → Branches
  renamed_branches f no_branches = no_branches
  renamed_branches f (more_branches first others) =
      more_branches (renamed_branch f first) (renamed_branches f others)

-- ---- declarations

-- what stands before the names of declared ports
abbrev pub renamed_head : (List ℕ → List ℕ) → Head → Head
renamed_head f head =
    record {
      at = head.at;
      direction = head.direction;
      kind = head.kind;
      signed = head.signed;
      bounds = option_map (renamed_bounds f) head.bounds;
    }

-- a net that is declared
abbrev pub renamed_net : (List ℕ → List ℕ) → Net → Net
renamed_net f net =
    record { name = renamed_identifier f net.name; value = option_map (renamed_formula f) net.value }

-- a variable that is declared
abbrev pub renamed_variable : (List ℕ → List ℕ) → Variable → Variable
renamed_variable f variable =
    record { name = renamed_identifier f variable.name; initial = variable.initial }

-- a parameter with its value
abbrev pub renamed_valuation : (List ℕ → List ℕ) → Valuation → Valuation
renamed_valuation f valuation =
    record { name = renamed_identifier f valuation.name; value = renamed_formula f valuation.value }

-- a continuous assignment
abbrev pub renamed_drive : (List ℕ → List ℕ) → Drive → Drive
renamed_drive f drive =
    record { target = renamed_target f drive.target; value = renamed_formula f drive.value }

-- what a gate drives
abbrev pub renamed_gate_drive : (List ℕ → List ℕ) → GateDrive → GateDrive
renamed_gate_drive f drive =
    record { outputs = map (renamed_target f) drive.outputs; value = renamed_formula f drive.value }

-- ---- processes

-- an event
abbrev pub renamed_happening : (List ℕ → List ℕ) → Happening → Happening
renamed_happening f (Edge edge at name) = Edge edge at (renamed_identifier f name)
renamed_happening f (Change name) = Change (renamed_identifier f name)
renamed_happening f (ChangeBit name index) =
    ChangeBit (renamed_identifier f name) (renamed_formula f index)
renamed_happening f (ChangePart name msb lsb) =
    ChangePart (renamed_identifier f name) (renamed_formula f msb) (renamed_formula f lsb)

-- what an always waits for
abbrev pub renamed_sensitivity : (List ℕ → List ℕ) → Sensitivity → Sensitivity
renamed_sensitivity f Star = Star
renamed_sensitivity f StarInParens = StarInParens
renamed_sensitivity f (Listed events) = Listed (map (renamed_happening f) events)

-- ---- instances

-- an argument by position
abbrev pub renamed_positional : (List ℕ → List ℕ) → Positional → Positional
renamed_positional f argument =
    record { at = argument.at; value = option_map (renamed_formula f) argument.value }

-- an argument by name, which is a name of the instance's module
abbrev pub renamed_associated : (List ℕ → List ℕ) → Associated → Associated
renamed_associated f argument =
    record {
      at = argument.at;
      name = argument.name;
      value = option_map (renamed_formula f) argument.value;
    }

-- the arguments of an instance
abbrev pub renamed_association : (List ℕ → List ℕ) → Association → Association
renamed_association f (ByPosition arguments) = ByPosition (map (renamed_positional f) arguments)
renamed_association f (ByName arguments) = ByName (map (renamed_associated f) arguments)

-- an instance
abbrev pub renamed_instantiation : (List ℕ → List ℕ) → Instantiation → Instantiation
renamed_instantiation f instance =
    record {
      name = renamed_identifier f instance.name;
      connections = renamed_association f instance.connections;
    }

-- ---- items

-- an item of a module
abbrev pub renamed_item : (List ℕ → List ℕ) → ModuleItem → ModuleItem
renamed_item f (Ports head names) = Ports (renamed_head f head) (map (renamed_identifier f) names)
renamed_item f (Nets at signed bounds nets) =
    Nets at signed (option_map (renamed_bounds f) bounds) (map (renamed_net f) nets)
renamed_item f (Variables at signed bounds variables) =
    Variables at signed (option_map (renamed_bounds f) bounds) (map (renamed_variable f) variables)
renamed_item f (Integers at names) = Integers at (map (renamed_identifier f) names)
renamed_item f (Parameters at kind bounds values) =
    Parameters at kind (option_map (renamed_bounds f) bounds) (map (renamed_valuation f) values)
renamed_item f (Drives at pause drives) =
    Drives at (option_map (renamed_pause f) pause) (map (renamed_drive f) drives)
renamed_item f (Gates at names pause drives) =
    Gates
    at
    (map (renamed_identifier f) names)
    (option_map (renamed_pause f) pause)
    (map (renamed_gate_drive f) drives)
renamed_item f (Always at sensitivity body) =
    Always at (renamed_sensitivity f sensitivity) (renamed_action f body)
renamed_item f (Instances child parameters instantiations) =
    Instances
    child
    (renamed_association f parameters)
    (map (renamed_instantiation f) instantiations)
