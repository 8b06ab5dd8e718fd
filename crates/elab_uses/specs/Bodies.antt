-- The expressions of a body as they are used, in their order: `for` is its turns, and an `if` whose condition is
-- constant is the branch that it takes (IEEE 1364-2001 sections 9.2 to 9.6).
-- Worked examples: proofs/Examples.antt.
use Rattle.std.specs.Prelude.{ℕ, zero, suc, ℤ, if◌then◌else◌, List, [], ◌∷◌, ◌++◌, Some, Ok, Err}
use Rattle.rtl_const.specs.Constant.{Outcome, constant, is_true}
use Rattle.rtl_flat.specs.declared.note.Note.{Note}
use Rattle.rtl_tree.specs.TreeExpr.{Formula}
use Rattle.rtl_tree.specs.TreeStmt.{Target, Whole, Bit, Part, Joined, Targets, no_targets, more_targets, Action, Null, Delayed, Assign, If, IfElse, Case, For, Block, Actions, no_actions, more_actions, Branch, Labelled, Default, Branches, no_branches, more_branches}
use Rattle.elab_body.specs.elab_scope.Names.{numbers_in}
use Rattle.elab_body.specs.elab_scope.Targets.{target_breadth}
use Rattle.elab_body.specs.elab_scope.Widths.{bits}
use Rattle.elab_body.specs.Bodies.{Head}
use Rattle.elab_standard.specs.declared.uses.Home.{Home}
use Rattle.elab_standard.specs.Scopes.{Scopes, turned}
use Rattle.elab_standard.specs.Uses.{Use, Value, Number, Test, Count, use_notes}
use Rattle.elab_standard.specs.Uses as uses

-- expressions as they are used, each with what names stand for there
abbrev pub Uses : Type 0
Uses = List (Scopes × Use)

-- what other tools read otherwise in them
abbrev pub notes_in : Home → Uses → List Note
notes_in home [] = []
notes_in home (one ∷ others) = use_notes home one.0 one.1 ++ notes_in home others

-- the desk's number of an expression, where it is constant
abbrev pub number_in : Scopes → Formula → Outcome
number_in s e = constant (numbers_in s.scope) e

-- an index is a number where it is constant, else a value by itself
abbrev pub index_use : Outcome → Formula → Use
index_use (Ok number) index = Number index
index_use (Err cause) index = Value index 0

abbrev mutual
  -- the indices and the ends of parts in a target, from left to right
  pub target_uses : Scopes → Target → Uses
  target_uses s (Whole name) = []
  target_uses s (Bit name index) = (s, index_use (number_in s index) index) ∷ []
  target_uses s (Part name kind first second) = (s, Number first) ∷ (s, Number second) ∷ []
  target_uses s (Joined at parts) = parts_uses s parts

  pub parts_uses : Scopes → Targets → Uses
  parts_uses s no_targets = []
  parts_uses s (more_targets first others) = target_uses s first ++ parts_uses s others

-- an assignment: its value has at least the width of its target (section 4.4.1)
abbrev pub assignment_uses : Scopes → Target → Formula → Uses
assignment_uses s target value =
    target_uses s target ++ (s, Value value (bits (target_breadth s.scope target))) ∷ []

-- a condition is tested where it is constant, else it is a value by itself
abbrev pub condition_use : Outcome → Formula → Use
condition_use (Ok number) condition = Test condition
condition_use (Err cause) condition = Value condition 0

-- the branch that a condition takes, or both
abbrev pub branch_uses : Outcome → Uses → Uses → Uses
branch_uses (Ok number) taken otherwise = if is_true number then taken else otherwise
branch_uses (Err cause) taken otherwise = taken ++ otherwise

-- the scopes of a turn of a loop
abbrev pub in_turn : Scopes → Head → ℤ → Scopes
in_turn s head number = turned s head.index.text (Some number)

-- what follows where a loop goes on
abbrev pub uses_if : Outcome → Uses → Uses
uses_if (Err cause) uses = []
uses_if (Ok number) uses = if is_true number then uses else []

-- what follows with a number
abbrev pub uses_with : Outcome → (ℤ → Uses) → Uses
uses_with (Err cause) next = []
uses_with (Ok number) next = next number

-- the turns of a loop from a number on, where so many may follow: the condition is tested before each, and once more
-- behind the last (section 9.6)
unfoldable pub turn_uses : (Scopes → Uses) → Scopes → Head → ℕ → ℤ → Uses
turn_uses body s head zero number = (in_turn s head number, Test head.condition) ∷ []
turn_uses body s head (suc more) number =
    (in_turn s head number, Test head.condition)
    ∷ uses_if (number_in (in_turn s head number) head.condition)
    (body (in_turn s head number)
    ++ (in_turn s head number, Count head.step)
    ∷ uses_with (number_in (in_turn s head number) head.step) (turn_uses body s head more))

-- a loop of at most 4096 turns
unfoldable pub loop_uses : (Scopes → Uses) → Scopes → Head → Uses
loop_uses body s head =
    (s, Count head.start) ∷ uses_with (number_in s head.start) (turn_uses body s head 4096)

abbrev mutual
  -- the expressions of a statement
  pub body_uses : Action → Scopes → Uses
  body_uses (Null at) s = []
  body_uses (Delayed pause body) s = body_uses body s
  body_uses (Assign target kind pause value) s = assignment_uses s target value
  body_uses (If at condition taken) s =
      (s, condition_use (number_in s condition) condition)
      ∷ branch_uses (number_in s condition) (body_uses taken s) []
  body_uses (IfElse at condition taken otherwise) s =
      (s, condition_use (number_in s condition) condition)
      ∷ branch_uses (number_in s condition) (body_uses taken s) (body_uses otherwise s)
  body_uses (Case at kind full parallel selector branches) s =
      (s, uses.Case at selector branches) ∷ branches_uses branches s
  body_uses (For at index start condition stepped step body) s =
      loop_uses (body_uses body) s (record { at = at; index = index; start = start; condition = condition; stepped = stepped; step = step })
  body_uses (Block at label body) s = actions_uses body s

  pub actions_uses : Actions → Scopes → Uses
  actions_uses no_actions s = []
  actions_uses (more_actions first others) s = body_uses first s ++ actions_uses others s

  -- the labels of an item of a case are used with its selector
  pub branch_item_uses : Branch → Scopes → Uses
  branch_item_uses (Labelled labels body) s = body_uses body s
  branch_item_uses (Default at body) s = body_uses body s

  pub branches_uses : Branches → Scopes → Uses
  branches_uses no_branches s = []
  branches_uses (more_branches first others) s = branch_item_uses first s ++ branches_uses others s
