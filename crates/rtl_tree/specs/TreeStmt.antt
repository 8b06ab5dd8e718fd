-- The plain form of statements, their targets and their delays.
-- Worked examples: crates/elab_body/proofs/Examples.antt.
use Rattle.std.specs.Prelude.{ℕ, Bool, List, [], ◌∷◌, map, Option}
use Rattle.std.specs.Option.{option_map}
use Rattle.rtl_tree.specs.TreeExpr.{Identifier, Formula, identifier, formula}
use Rattle.rtl_tree.specs.declared.literal.Literal.{Literal}
use Rattle.rtl_tree.specs.declared.tree.operators.PartKind.{PartKind}
use Rattle.rtl_tree.specs.declared.tree.stmt.Lvalue.{Lvalue, Row_of-Lvalue, end_of-Lvalue, more_of-Lvalue}
use Rattle.rtl_tree.specs.declared.tree.stmt.Lvalue.TheVariants as assigned
use Rattle.rtl_tree.specs.declared.tree.stmt.Ticks.{Ticks}
use Rattle.rtl_tree.specs.declared.tree.stmt.Ticks.TheVariants as ticking
use Rattle.rtl_tree.specs.declared.tree.stmt.Delay.{Delay}
use Rattle.rtl_tree.specs.declared.tree.stmt.AssignmentKind.{AssignmentKind}
use Rattle.rtl_tree.specs.declared.tree.stmt.CaseKind.{CaseKind}
use Rattle.rtl_tree.specs.declared.tree.stmt.CaseItem.{CaseItem}
use Rattle.rtl_tree.specs.declared.tree.stmt.CaseItem.TheVariants as listed
use Rattle.rtl_tree.specs.declared.tree.stmt.Stmt.{Stmt, Row_of-Stmt, end_of-Stmt, more_of-Stmt, Row_of-CaseItem, end_of-CaseItem, more_of-CaseItem}
use Rattle.rtl_tree.specs.declared.tree.stmt.Stmt.TheVariants as written

mutual
  -- the left side of an assignment
  pub data Target : Type 0 where
    Whole : (name : Identifier) → Target
    Bit : (name : Identifier) (index : Formula) → Target
    Part : (name : Identifier) (kind : PartKind) (first second : Formula) → Target
    Joined : (at : ℕ) (parts : Targets) → Target

  -- targets in a row
  pub data Targets : Type 0 where
    no_targets : Targets
    more_targets : (first : Target) (others : Targets) → Targets

-- the row of a list of targets
abbrev pub target_row : List Target → Targets
target_row [] = no_targets
target_row (first ∷ others) = more_targets first (target_row others)

-- the list of a row of targets
abbrev pub target_list : Targets → List Target
target_list no_targets = []
target_list (more_targets first others) = first ∷ target_list others

-- the place of a target: of its first token
abbrev pub target_place : Target → ℕ
target_place (Whole name) = name.at
target_place (Bit name index) = name.at
target_place (Part name kind first second) = name.at
target_place (Joined at parts) = at

-- how long a delay is
pub data Span : Type 0 where
  Fixed : (value : Literal) → Span
  Named : (name : Identifier) → Span
  Valued : (value : Formula) → Span

-- a delay, with the place of its mark
pub record Pause : Type 0 where
  pub at : ℕ
  pub span : Span

mutual
  -- a statement as it is written
  pub data Action : Type 0 where
    Null : (at : ℕ) → Action
    Delayed : (pause : Pause) (body : Action) → Action
    Assign : (target : Target) (kind : AssignmentKind) (pause : Option Pause) (value : Formula) → Action
    If : (at : ℕ) (condition : Formula) (taken : Action) → Action
    IfElse : (at : ℕ) (condition : Formula) (taken otherwise : Action) → Action
    Case : (at : ℕ) (kind : CaseKind) (full parallel : Bool) (selector : Formula) (branches : Branches) → Action
    For : (at : ℕ) (index : Identifier) (start condition : Formula) (stepped : Identifier) (step : Formula) (body : Action) → Action
    Block : (at : ℕ) (label : Option Identifier) (body : Actions) → Action

  -- statements in a row
  pub data Actions : Type 0 where
    no_actions : Actions
    more_actions : (first : Action) (others : Actions) → Actions

  -- an item of a case
  pub data Branch : Type 0 where
    Labelled : (labels : List Formula) (body : Action) → Branch
    Default : (at : ℕ) (body : Action) → Branch

  -- items of a case in a row
  pub data Branches : Type 0 where
    no_branches : Branches
    more_branches : (first : Branch) (others : Branches) → Branches

-- the place of a statement: of its first token after its attributes
abbrev pub action_place : Action → ℕ
action_place (Null at) = at
action_place (Delayed pause body) = pause.at
action_place (Assign target kind pause value) = target_place target
action_place (If at condition taken) = at
action_place (IfElse at condition taken otherwise) = at
action_place (Case at kind full parallel selector items) = at
action_place (For at index start condition stepped step body) = at
action_place (Block at label body) = at

-- the row of a list of statements
abbrev pub action_row : List Action → Actions
action_row [] = no_actions
action_row (first ∷ others) = more_actions first (action_row others)

-- the list of a row of statements
abbrev pub action_list : Actions → List Action
action_list no_actions = []
action_list (more_actions first others) = first ∷ action_list others

-- the row of a list of items of a case
abbrev pub branch_row : List Branch → Branches
branch_row [] = no_branches
branch_row (first ∷ others) = more_branches first (branch_row others)

-- the list of a row of items of a case
abbrev pub branch_list : Branches → List Branch
branch_list no_branches = []
branch_list (more_branches first others) = first ∷ branch_list others

abbrev mutual
  pub target : Lvalue → Target
  target (assigned.Whole name) = Whole (identifier name)
  target (assigned.Bit name index) = Bit (identifier name) (formula index)
  target (assigned.Part name kind first second) = Part (identifier name) kind (formula first) (formula second)
  target (assigned.Concat' at shape parts) = Joined at (targets parts)

  pub targets : {m : _} → Row_of-Lvalue m → Targets
  targets end_of-Lvalue = no_targets
  targets (more_of-Lvalue first others) = more_targets (target first) (targets others)

abbrev pub span : Ticks → Span
span (ticking.Number value) = Fixed value
span (ticking.Name name) = Named (identifier name)
span (ticking.Parens value) = Valued (formula value)

abbrev pub pause : Delay → Pause
pause delay = record { at = delay.at; span = span delay.ticks }

abbrev mutual
  pub action : Stmt → Action
  action (written.Null at) = Null at
  action (written.Delayed' delay p body) = Delayed (pause delay) (action body)
  action (written.Assign lvalue kind delay value) =
      Assign (target lvalue) kind (option_map pause delay) (formula value)
  action (written.If' at condition p taken) = If at (formula condition) (action taken)
  action (written.IfElse' at condition p taken q otherwise) =
      IfElse at (formula condition) (action taken) (action otherwise)
  action (written.Case' at kind full parallel selector shape items) =
      Case at kind full parallel (formula selector) (branches items)
  action (written.For' at index start condition stepped step p body) =
      For
      at
      (identifier index)
      (formula start)
      (formula condition)
      (identifier stepped)
      (formula step)
      (action body)
  action (written.Block' at label shape body) =
      Block at (option_map identifier label) (actions body)

  pub actions : {m : _} → Row_of-Stmt m → Actions
  actions end_of-Stmt = no_actions
  actions (more_of-Stmt first others) = more_actions (action first) (actions others)

  pub branch : CaseItem → Branch
  branch (listed.Labelled labels body) = Labelled (map formula labels.items) (action body)
  branch (listed.Default at body) = Default at (action body)

  pub branches : {m : _} → Row_of-CaseItem m → Branches
  branches end_of-CaseItem = no_branches
  branches (more_of-CaseItem first others) = more_branches (branch first) (branches others)
