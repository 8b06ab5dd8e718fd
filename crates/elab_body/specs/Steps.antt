-- What the unrolling of a body comes upon, in its order, and how far it goes.
-- Worked examples: proofs/Examples.antt.
use Rattle.std.specs.Prelude.{ℕ, zero, suc, Bool, true, false, List, [], ◌∷◌, map, Option, None, Some}
use Rattle.elab_nodes.specs.elab_scope.Faults.{Refusal, TooLarge, keep}
use Rattle.elab_nodes.specs.elab_scope.Rules.{fault}
use Rattle.elab_nodes.specs.Spares.{spared}
use Rattle.elab_body.specs.declared.progress.Left.{Left}

-- a fault; or what counts, with its place: a statement, a turn of a loop that leaves none, a delay, or so many nodes of
-- expressions
pub data Step : Type 0 where
  Faulty : (told : Refusal) → Step
  Statement : (at : ℕ) → Step
  Turn : (at : ℕ) → Step
  Delay : (at : ℕ) → Step
  Nodes : (at count : ℕ) → Step

-- faults as steps
abbrev pub faulty : List Refusal → List Step
faulty faults = map Faulty faults

-- whether a statement is among steps; a turn that leaves none is none
abbrev pub has_statement : List Step → Bool
has_statement [] = false
has_statement (Statement at ∷ steps) = true
has_statement (Turn at ∷ steps) = has_statement steps
has_statement (Faulty told ∷ steps) = has_statement steps
has_statement (Delay at ∷ steps) = has_statement steps
has_statement (Nodes at count ∷ steps) = has_statement steps

-- the delays among steps, by their places
abbrev pub delays_of : List Step → List ℕ
delays_of [] = []
delays_of (Delay at ∷ steps) = at ∷ delays_of steps
delays_of (Statement at ∷ steps) = delays_of steps
delays_of (Turn at ∷ steps) = delays_of steps
delays_of (Faulty told ∷ steps) = delays_of steps
delays_of (Nodes at count ∷ steps) = delays_of steps

-- what follows where so many nodes are left behind those at a place, if they are
abbrev pub where_spared : ℕ → Option ℕ → (ℕ → List Refusal) → List Refusal
where_spared at None next = fault at TooLarge ∷ []
where_spared at (Some nodes) next = next nodes

-- the faults of steps where so many statements, delays and nodes are left: what is one too many ends them
abbrev pub checked : ℕ → ℕ → ℕ → List Step → List Refusal
checked statements delays nodes [] = []
checked statements delays nodes (Faulty told ∷ steps) = told ∷ checked statements delays nodes steps
checked statements delays nodes (Nodes at count ∷ steps) =
    where_spared at (spared nodes count) (λ left. checked statements delays left steps)
checked zero delays nodes (Statement at ∷ steps) = fault at TooLarge ∷ []
checked (suc statements) delays nodes (Statement at ∷ steps) = checked statements delays nodes steps
checked zero delays nodes (Turn at ∷ steps) = fault at TooLarge ∷ []
checked (suc statements) delays nodes (Turn at ∷ steps) = checked statements delays nodes steps
checked statements zero nodes (Delay at ∷ steps) = fault at TooLarge ∷ []
checked statements (suc delays) nodes (Delay at ∷ steps) = checked statements delays nodes steps

-- the same step by step: the fault that is told so far, how many statements, delays and nodes are left, none of them
-- where a limit is passed, and whether a statement has come
pub record Course : Type 0 where
  pub best : Option Refusal
  pub left : Option Left
  pub filled : Bool

-- a fault more
abbrev pub told_in : Option Refusal → Option Left → Bool → Refusal → Course
told_in best None filled found = record { best = best; left = None; filled = filled }
told_in best (Some left) filled found = record { best = keep best found; left = Some left; filled = filled }

-- a limit is passed at a place
abbrev pub cut_at : Option Refusal → ℕ → Bool → Course
cut_at best at filled = record { best = keep best (fault at TooLarge); left = None; filled = filled }

abbrev pub with_statements : Option Refusal → ℕ → Bool → ℕ → ℕ → ℕ → Course
with_statements best at filled zero delays nodes = cut_at best at filled
with_statements best at filled (suc n) delays nodes =
    record { best = best; left = Some (record { statements = n; delays = delays; nodes = nodes }); filled = filled }

-- a statement more, or a turn that counts as one, and whether a statement has come before it and with it
abbrev pub counted_in : Option Refusal → ℕ → Bool → Bool → Option Left → Course
counted_in best at before filled None = record { best = best; left = None; filled = before }
counted_in best at before filled (Some left) =
    with_statements best at filled left.statements left.delays left.nodes

abbrev pub with_delays : Option Refusal → ℕ → Bool → ℕ → ℕ → ℕ → Course
with_delays best at filled statements zero nodes = cut_at best at filled
with_delays best at filled statements (suc n) nodes =
    record { best = best; left = Some (record { statements = statements; delays = n; nodes = nodes }); filled = filled }

-- a delay more
abbrev pub paused_in : Option Refusal → ℕ → Bool → Option Left → Course
paused_in best at filled None = record { best = best; left = None; filled = filled }
paused_in best at filled (Some left) =
    with_delays best at filled left.statements left.delays left.nodes

-- where so many nodes are left behind some at a place, if they are
abbrev pub with_nodes : Option Refusal → ℕ → Bool → ℕ → ℕ → Option ℕ → Course
with_nodes best at filled statements delays None = cut_at best at filled
with_nodes best at filled statements delays (Some n) =
    record { best = best; left = Some (record { statements = statements; delays = delays; nodes = n }); filled = filled }

-- so many nodes more
abbrev pub spent_in : Option Refusal → ℕ → ℕ → Bool → Option Left → Course
spent_in best at count filled None = record { best = best; left = None; filled = filled }
spent_in best at count filled (Some left) =
    with_nodes best at filled left.statements left.delays (spared left.nodes count)

-- one step more
abbrev pub stepped : Course → Step → Course
stepped course (Faulty found) = told_in course.best course.left course.filled found
stepped course (Statement at) = counted_in course.best at course.filled true course.left
stepped course (Turn at) = counted_in course.best at course.filled course.filled course.left
stepped course (Delay at) = paused_in course.best at course.filled course.left
stepped course (Nodes at count) = spent_in course.best at count course.filled course.left

-- all steps
abbrev pub passed : Course → List Step → Course
passed course [] = course
passed course (step ∷ steps) = passed (stepped course step) steps
