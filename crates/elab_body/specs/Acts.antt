-- The statements that a body is in the design: `for` is its turns, and an `if` whose condition is constant is the
-- branch that it takes.
-- Worked examples: crates/tests_layers/stdin.
use Rattle.std.specs.Prelude.{ℕ, zero, suc, ℤ, Bool, true, false, ◌&&◌, if◌then◌else◌, List, [], ◌∷◌, ◌++◌, map, Option, None, Some, Ok, Err}
use Rattle.rtl_const.specs.Constant.{Outcome, constant, is_true}
use Rattle.text_ground.specs.declared.text.Spot.{Spot}
use Rattle.rtl_tree.specs.declared.tree.stmt.AssignmentKind.{AssignmentKind}
use Rattle.rtl_tree.specs.declared.tree.stmt.AssignmentKind.TheVariants.{Blocking, Nonblocking}
use Rattle.rtl_tree.specs.declared.tree.stmt.CaseKind.{CaseKind}
use Rattle.rtl_tree.specs.declared.tree.stmt.CaseKind.TheVariants as written
use Rattle.rtl_tree.specs.TreeExpr.{Formula}
use Rattle.rtl_tree.specs.TreeStmt.{target_place, Target, Action, Null, Delayed, Assign, If, IfElse, Case, For, Block, Actions, no_actions, more_actions, Branch, Labelled, Default, Branches, no_branches, more_branches}
use Rattle.rtl_flat.specs.declared.act.CaseKind.{CaseKind as FlatKind}
use Rattle.rtl_flat.specs.declared.act.CaseKind.TheVariants as flat
use Rattle.rtl_flat.specs.Expression.{Tree}
use Rattle.rtl_flat.specs.Process.{body_of, Otherwise, Without, With}
use Rattle.rtl_flat.specs.Process as made
use Rattle.elab_nodes.specs.elab_scope.declared.context.Context.{Context}
use Rattle.elab_nodes.specs.elab_scope.declared.widths.Breadth.{Breadth}
use Rattle.elab_nodes.specs.elab_scope.Names.{Meanings, numbers_in}
use Rattle.elab_nodes.specs.elab_scope.Own.{breadth, sign}
use Rattle.elab_nodes.specs.elab_scope.Targets.{assigned_context, pieces_of}
use Rattle.elab_nodes.specs.elab_scope.Trees.{own_context, spot_in, tree_of}
use Rattle.elab_nodes.specs.elab_scope.Widths.{bits, wider}
use Rattle.elab_body.specs.Bodies.{Head, in_head, in_turn}

abbrev pub is_delayed : AssignmentKind → Bool
is_delayed Blocking = false
is_delayed Nonblocking = true

abbrev pub kind_of : CaseKind → FlatKind
kind_of written.Plain = flat.Plain
kind_of written.Z = flat.Z
kind_of written.X = flat.X

-- the selector of a case is sized with all its labels, and signed only where all of them are (IEEE 1364-2001
-- section 9.5)
abbrev pub labels_breadth : Meanings → Breadth → List Formula → Breadth
labels_breadth scope widest [] = widest
labels_breadth scope widest (label ∷ labels) = labels_breadth scope (wider widest (breadth scope label)) labels

abbrev pub labels_sign : Meanings → Bool → List Formula → Bool
labels_sign scope signed [] = signed
labels_sign scope signed (label ∷ labels) = labels_sign scope (signed && sign scope label) labels

abbrev pub branches_breadth : Meanings → Breadth → Branches → Breadth
branches_breadth scope widest no_branches = widest
branches_breadth scope widest (more_branches (Labelled labels body) others) =
    branches_breadth scope (labels_breadth scope widest labels) others
branches_breadth scope widest (more_branches (Default at body) others) =
    branches_breadth scope widest others

abbrev pub branches_sign : Meanings → Bool → Branches → Bool
branches_sign scope signed no_branches = signed
branches_sign scope signed (more_branches (Labelled labels body) others) =
    branches_sign scope (labels_sign scope signed labels) others
branches_sign scope signed (more_branches (Default at body) others) = branches_sign scope signed others

abbrev pub case_context : Meanings → Formula → Branches → Context
case_context scope selector branches =
    record { width = bits (branches_breadth scope (breadth scope selector) branches); signed = branches_sign scope (sign scope selector) branches }

-- the branch that is taken where the condition is constant, else both
abbrev pub branch_acts : Outcome → Spot → Tree → List made.Action → Option (List made.Action) → List made.Action
branch_acts (Ok number) spot test taken None = if is_true number then taken else []
branch_acts (Ok number) spot test taken (Some otherwise) = if is_true number then taken else otherwise
branch_acts (Err cause) spot test taken None = made.If test (body_of taken) Without spot ∷ []
branch_acts (Err cause) spot test taken (Some otherwise) =
    made.If test (body_of taken) (With (body_of otherwise)) spot ∷ []

abbrev pub acts_if : Outcome → List made.Action → List made.Action
acts_if (Err cause) acts = []
acts_if (Ok number) acts = if is_true number then acts else []

abbrev pub acts_with : Outcome → (ℤ → List made.Action) → List made.Action
acts_with (Err cause) next = []
acts_with (Ok number) next = next number

-- an assignment
abbrev pub set_of : ℕ → ℕ → Meanings → Target → AssignmentKind → Formula → made.Action
set_of file base scope target kind value =
    made.Set (pieces_of file base scope target) (tree_of file base scope value (assigned_context scope value target)) (is_delayed kind) (spot_in file (target_place target))

-- the turns of a loop from a number on
unfoldable pub act_turns : (Meanings → List made.Action) → Meanings → Head → ℕ → ℤ → List made.Action
act_turns body scope head zero number = []
act_turns body scope head (suc more) number =
    acts_if (in_head (in_turn scope head number) head.condition)
    (body (in_turn scope head number)
    ++ acts_with (in_head (in_turn scope head number) head.step) (act_turns body scope head more))

-- all turns of a loop
unfoldable pub loop_acts : (Meanings → List made.Action) → Meanings → Head → List made.Action
loop_acts body scope head = acts_with (in_head scope head.start) (act_turns body scope head 4096)

abbrev mutual
  -- a statement of a file, where signals of the module are numbered from a base on
  pub acts : ℕ → ℕ → Action → Meanings → List made.Action
  acts file base (Null at) scope = []
  acts file base (Delayed pause body) scope = acts file base body scope
  acts file base (Assign target kind pause value) scope = set_of file base scope target kind value ∷ []
  acts file base (If at condition taken) scope =
      branch_acts (constant (numbers_in scope) condition) (spot_in file at) (tree_of file base scope condition (own_context scope condition)) (acts file base taken scope) None
  acts file base (IfElse at condition taken otherwise) scope =
      branch_acts (constant (numbers_in scope) condition) (spot_in file at) (tree_of file base scope condition (own_context scope condition)) (acts file base taken scope) (Some (acts file base otherwise scope))
  acts file base (Case at kind full parallel selector branches) scope =
      made.Case (kind_of kind) full parallel (tree_of file base scope selector (case_context scope selector branches)) (case_branches file base branches scope (case_context scope selector branches)) (fallback file base branches scope) (spot_in file at) ∷ []
  acts file base (For at index start condition stepped step body) scope =
      loop_acts (acts file base body) scope (record { at = at; index = index; start = start; condition = condition; stepped = stepped; step = step })
  acts file base (Block at label body) scope = made.Block (body_of (body_acts file base body scope)) ∷ []

  pub body_acts : ℕ → ℕ → Actions → Meanings → List made.Action
  body_acts file base no_actions scope = []
  body_acts file base (more_actions first others) scope =
      acts file base first scope ++ body_acts file base others scope

  -- the items of a case with labels
  pub case_branches : ℕ → ℕ → Branches → Meanings → Context → made.Branches
  case_branches file base no_branches scope context = made.NoBranch
  case_branches file base (more_branches first others) scope context =
      with_branch file base first scope context (case_branches file base others scope context)

  pub with_branch : ℕ → ℕ → Branch → Meanings → Context → made.Branches → made.Branches
  with_branch file base (Labelled labels body) scope context others =
      made.Branch (map (λ label. tree_of file base scope label context) labels) (body_of (acts file base body scope)) others
  with_branch file base (Default at body) scope context others = others

  -- what runs where no label matches
  pub fallback : ℕ → ℕ → Branches → Meanings → Otherwise
  fallback file base no_branches scope = Without
  fallback file base (more_branches first others) scope =
      first_fallback file base first scope (fallback file base others scope)

  pub first_fallback : ℕ → ℕ → Branch → Meanings → Otherwise → Otherwise
  first_fallback file base (Labelled labels body) scope others = others
  first_fallback file base (Default at body) scope others = With (body_of (acts file base body scope))
