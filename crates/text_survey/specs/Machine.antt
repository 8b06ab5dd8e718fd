-- It serves inner contracts and proofs; no answer of the program is stated by it.
-- The survey as steps from state to state: each looks at the next token alone.
-- Worked examples: crates/tests_layers/stdin.
use Rattle.std.specs.Prelude.{◌≡◌, ℕ, zero, suc, Bool, true, false, List, [], ◌∷◌, ◌++◌, Option, Some, None}
use Rattle.rtl_tree.specs.declared.symbol.Symbol.{Symbol}
use Rattle.rtl_tree.specs.Symbols.{Terminal}
use Rattle.text_survey.specs.declared.task.Task.{Task}
use Rattle.text_survey.specs.declared.task.Taking.{Taking}
use Rattle.text_survey.specs.declared.task.Taking.TheVariants as taking
use Rattle.text_survey.specs.Table.{Step}
use Rattle.text_survey.specs.Rule.{rule}

-- what is still to be done, the next first, and the tokens that are left
pub record State : Type 0 where
  pub tasks : List Task
  pub rest : List Terminal

abbrev pub at : List Task → List Terminal → State
at tasks rest = record { tasks = tasks; rest = rest }

abbrev pub symbol_at : List Terminal → Option Symbol
symbol_at [] = None
symbol_at (t ∷ ts) = Some t.symbol

abbrev pub behind : List Terminal → List Terminal
behind [] = []
behind (t ∷ ts) = ts

-- the tokens that are left
abbrev pub left : Taking → List Terminal → List Terminal
left taking.Nothing ts = ts
left taking.Ahead ts = ts
left taking.Token ts = behind ts
left taking.Node ts = behind ts
left taking.Operator ts = behind ts

abbrev pub moved : Option Step → List Task → List Terminal → Option State
moved None tasks ts = None
moved (Some step) tasks ts = Some (at (step.tasks ++ tasks) (left step.taking ts))

-- one task is done
unfoldable pub next : List Task → List Terminal → Option State
next [] ts = None
next (task ∷ tasks) ts = moved (rule task (symbol_at ts)) tasks ts

-- what comes of a state, where one is
abbrev pub carry : (State → Option State) → Option State → Option State
carry f None = None
carry f (Some s) = f s

-- so many tasks are done
abbrev pub after : ℕ → State → Option State
after zero s = Some s
after (suc n) s = carry (after n) (next s.tasks s.rest)

-- some tasks are done
abbrev pub Leads : State → State → Type 0
Leads s t = (n : ℕ) × after n s ≡ Some t

-- what a call says of one task
abbrev pub Moves : Option State → Bool → State → Type 0
Moves None said state = said ≡ false
Moves (Some after) said state = (said ≡ true) × (state ≡ after)
