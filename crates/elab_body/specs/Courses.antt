-- It serves inner contracts and proofs; no answer of the program is stated by it.
-- The course of a body, and the head of a loop, from what the code keeps of them.
use Rattle.std.specs.Prelude.{not, ℕ, ℤ, Bool, false, ◌||◌, if◌then◌else◌, List, ◌∷◌, ◌++◌, Option, None, Some, Ok, Err}
use Rattle.std.specs.Option.{is_some, option_map}
use Rattle.rtl_const.specs.Constant.{Outcome, is_true}
use Rattle.rtl_tree.specs.TreeExpr.{formula, identifier}
use Rattle.elab_nodes.specs.elab_scope.declared.known.Known.{Known}
use Rattle.elab_nodes.specs.elab_scope.declared.known.Known.TheVariants as known
use Rattle.elab_nodes.specs.elab_scope.Faults.{Refusal, refusal}
use Rattle.elab_body.specs.declared.branches.Chosen.{Chosen}
use Rattle.elab_body.specs.declared.branches.Chosen.TheVariants.{Taken, Otherwise, Both}
use Rattle.elab_body.specs.declared.head.Head.{Head as Written}
use Rattle.elab_body.specs.declared.progress.Progress.{Progress}
use Rattle.elab_body.specs.Bodies.{Head}
use Rattle.elab_body.specs.Steps.{Course, Step, Statement, Turn, Nodes, faulty, stepped}

abbrev pub course : Progress → Course
course progress =
    record { best = option_map refusal progress.best; left = progress.left; filled = progress.filled }

-- a turn of a loop begins: no statement has come in it
abbrev pub begun : Course → Course
begun course = record { best = course.best; left = course.left; filled = false }

-- whether a statement has come before a turn or in it
abbrev pub filled_by : Bool → Course → Course
filled_by before course =
    record { best = course.best; left = course.left; filled = before || course.filled }

-- a turn without a statement counts as one
abbrev pub turned : ℕ → Course → Course
turned at course = if course.filled then course else stepped course (Turn at)

-- a turn of a loop at this place ends, where a statement has come before it or not
abbrev pub ended : Bool → ℕ → Course → Course
ended before at course = filled_by before (turned at course)

-- whether a limit is passed
abbrev pub is_over : Course → Bool
is_over course = not (is_some course.left)

abbrev pub head_of : Written → Head
head_of head =
    record { at = head.at; index = identifier head.index.now; start = formula head.start.now; condition = formula head.condition.now; stepped = identifier head.stepped.now; step = formula head.step.now }

-- the branch that a condition takes, or both
abbrev pub chosen : Outcome → Chosen
chosen (Ok number) = if is_true number then Taken else Otherwise
chosen (Err cause) = Both

-- what counts of an `if` itself: nothing where its condition is constant
abbrev pub condition_steps : ℕ → Outcome → ℕ → List Refusal → List Step
condition_steps at (Ok number) nodes condition = faulty condition
condition_steps at (Err cause) nodes condition = Statement at ∷ Nodes at nodes ∷ faulty condition

-- the steps of the branches that are left
abbrev pub chosen_steps : Chosen → List Step → List Step → List Step
chosen_steps Taken taken otherwise = taken
chosen_steps Otherwise taken otherwise = otherwise
chosen_steps Both taken otherwise = taken ++ otherwise

-- whether a loop goes on
abbrev pub goes_on : Outcome → Bool
goes_on (Ok number) = is_true number
goes_on (Err cause) = false

-- the number that a loop starts with, where it has turns
abbrev pub first_of : Option Known → Outcome → Option ℤ
first_of (Some (known.Integer None)) (Ok first) = Some first
first_of _ _ = None
