-- The steps of a body: `for` is its turns, and an `if` whose condition is constant is the branch that it takes
-- (IEEE 1364-2001 sections 9.4 to 9.6).
-- Worked examples: proofs/Examples.antt.
use Rattle.std.specs.Prelude.{ℕ, zero, suc, ℤ, if◌then◌else◌, List, [], ◌∷◌, ◌++◌, Option, None, Some, Ok, Err}
use Rattle.std.specs.Str.{bytes_eq}
use Rattle.rtl_const.specs.Constant.{Outcome, constant, is_true}
use Rattle.rtl_tree.specs.TreeExpr.{Identifier, Formula}
use Rattle.rtl_tree.specs.TreeStmt.{target_place, Pause, Action, Null, Delayed, Assign, If, IfElse, Case, For, Block, Actions, no_actions, more_actions, Branch, Labelled, Default, Branches, no_branches, more_branches}
use Rattle.elab_nodes.specs.elab_scope.declared.known.Known.{Known}
use Rattle.elab_nodes.specs.elab_scope.declared.known.Known.TheVariants as known
use Rattle.elab_nodes.specs.elab_scope.declared.rules.Writer.TheVariants as writer
use Rattle.elab_nodes.specs.elab_scope.Expressions.{faults, constant_faults}
use Rattle.elab_nodes.specs.elab_scope.Faults.{Undeclared, NotAssignable, TooLarge, Refusal}
use Rattle.elab_nodes.specs.elab_scope.Names.{Meanings, indexed, numbers_in}
use Rattle.elab_nodes.specs.elab_scope.Rules.{fault, number_faults}
use Rattle.elab_nodes.specs.elab_scope.Targets.{target_faults}
use Rattle.elab_nodes.specs.Nodes.{node_count}
use Rattle.elab_nodes.specs.Totals.{assignment_count, case_count}
use Rattle.elab_body.specs.Steps.{Step, Statement, Turn, Delay, Nodes, faulty, has_statement}

-- the faults of several expressions
abbrev pub all_faults : Meanings → List Formula → List Refusal
all_faults scope [] = []
all_faults scope (e ∷ others) = faults scope e ++ all_faults scope others

abbrev pub pause_steps : Option Pause → List Step
pause_steps None = []
pause_steps (Some pause) = Delay pause.at ∷ []

-- the head of a loop
pub record Head : Type 0 where
  pub at : ℕ
  pub index : Identifier
  pub start : Formula
  pub condition : Formula
  pub stepped : Identifier
  pub step : Formula

-- a loop counts by an `integer` that no loop around it counts by: one that has a number already would be changed
abbrev pub index_faults : Identifier → Option Known → List Refusal
index_faults name None = fault name.at (Undeclared name.text) ∷ []
index_faults name (Some (known.Integer None)) = []
index_faults name (Some _) = fault name.at (NotAssignable name.text) ∷ []

-- its step assigns what its start assigns
abbrev pub stepped_faults : Identifier → Identifier → Option Known → List Refusal
stepped_faults index name None = fault name.at (Undeclared name.text) ∷ []
stepped_faults index name (Some k) =
    if bytes_eq index.text name.text then [] else fault name.at (NotAssignable name.text) ∷ []

-- the scope of a turn
abbrev pub in_turn : Meanings → Head → ℤ → Meanings
in_turn scope head number = indexed scope head.index.text (Some number)

-- the number of a part of the head in a turn
abbrev pub in_head : Meanings → Formula → Outcome
in_head scope e = constant (numbers_in scope) e

-- what follows where a condition holds
abbrev pub where_true : Outcome → List Step → List Step
where_true (Err cause) steps = faulty (number_faults (Err cause))
where_true (Ok number) steps = if is_true number then steps else []

-- what follows with a number
abbrev pub with_number : Outcome → (ℤ → List Step) → List Step
with_number (Err cause) next = faulty (number_faults (Err cause))
with_number (Ok number) next = next number

-- a turn that leaves no statement counts as one
abbrev pub counted : ℕ → List Step → List Step
counted at steps = if has_statement steps then steps else steps ++ Turn at ∷ []

-- the turns of a loop from a number on, where so many may follow
unfoldable pub turns : (Meanings → List Step) → Meanings → Head → ℕ → ℤ → List Step
turns body scope head zero number =
    where_true (in_head (in_turn scope head number) head.condition) (faulty (fault head.at TooLarge ∷ []))
turns body scope head (suc more) number =
    where_true (in_head (in_turn scope head number) head.condition)
    (counted head.at (body (in_turn scope head number))
    ++ with_number (in_head (in_turn scope head number) head.step) (turns body scope head more))

-- the steps of a loop of at most 4096 turns; only one that counts by an `integer` of its own has turns
abbrev pub loop_turns : Option Known → List Step → List Step
loop_turns (Some (known.Integer None)) steps = steps
loop_turns _ steps = []

-- the turns from the first number on; a start without one has its fault already
abbrev pub first_turns : Outcome → (ℤ → List Step) → List Step
first_turns (Err cause) next = []
first_turns (Ok number) next = next number

-- the names of the condition and of the step, where the index has its first number
abbrev pub head_faults : Meanings → Head → Outcome → List Refusal
head_faults scope head (Err cause) = []
head_faults scope head (Ok number) =
    faults (in_turn scope head number) head.condition ++ faults (in_turn scope head number) head.step

-- the faults of the head of a loop
unfoldable pub loop_faults : Meanings → Head → List Refusal
loop_faults scope head =
    index_faults head.index (scope head.index.text)
    ++ constant_faults scope head.start
    ++ head_faults scope head (in_head scope head.start)
    ++ stepped_faults head.index head.stepped (scope head.stepped.text)

-- all turns of a loop
unfoldable pub all_turns : (Meanings → List Step) → Meanings → Head → List Step
all_turns body scope head =
    loop_turns (scope head.index.text) (first_turns (in_head scope head.start) (turns body scope head 4096))

abbrev pub loop_steps : (Meanings → List Step) → Meanings → Head → List Step
loop_steps body scope head = faulty (loop_faults scope head) ++ all_turns body scope head

-- a branch that a condition takes, or both; a constant condition isn't in the design, nor are its nodes
abbrev pub branch_steps : ℕ → Outcome → ℕ → List Refusal → List Step → List Step → List Step
branch_steps at (Ok number) nodes condition taken otherwise =
    faulty condition ++ (if is_true number then taken else otherwise)
branch_steps at (Err cause) nodes condition taken otherwise =
    Statement at ∷ Nodes at nodes ∷ faulty condition ++ taken ++ otherwise

abbrev mutual
  -- the steps of a statement in a scope: a statement, what expressions it has itself, and what is wrong with them
  pub steps : Action → Meanings → List Step
  steps (Null at) scope = []
  steps (Delayed pause body) scope = Delay pause.at ∷ steps body scope
  steps (Assign target kind pause value) scope =
      Statement (target_place target) ∷ Nodes (target_place target) (assignment_count scope target value) ∷ faulty (target_faults writer.Procedural scope target) ++ pause_steps pause ++ faulty (faults scope value)
  steps (If at condition taken) scope =
      branch_steps at (constant (numbers_in scope) condition) (node_count scope condition) (faults scope condition) (steps taken scope) []
  steps (IfElse at condition taken otherwise) scope =
      branch_steps at (constant (numbers_in scope) condition) (node_count scope condition) (faults scope condition) (steps taken scope) (steps otherwise scope)
  steps (Case at kind full parallel selector branches) scope =
      Statement at ∷ Nodes at (case_count scope selector branches) ∷ faulty (faults scope selector) ++ branches_steps branches scope
  steps (For at index start condition stepped step body) scope =
      loop_steps (steps body) scope (record { at = at; index = index; start = start; condition = condition; stepped = stepped; step = step })
  steps (Block at label body) scope = Statement at ∷ body_steps body scope

  pub body_steps : Actions → Meanings → List Step
  body_steps no_actions scope = []
  body_steps (more_actions first others) scope = steps first scope ++ body_steps others scope

  pub branch_item_steps : Branch → Meanings → List Step
  branch_item_steps (Labelled labels body) scope = faulty (all_faults scope labels) ++ steps body scope
  branch_item_steps (Default at body) scope = steps body scope

  pub branches_steps : Branches → Meanings → List Step
  branches_steps no_branches scope = []
  branches_steps (more_branches first others) scope =
      branch_item_steps first scope ++ branches_steps others scope
