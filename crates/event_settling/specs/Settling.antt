-- By level every step of a clean design comes to rest within its budget.
-- Worked examples: proofs/Example.antt, proofs/EndingExample.antt.
use Rattle.std.specs.Prelude.{◌≡◌, ◌+◌, ◌<◌, ◌≤◌, ℕ, true, List, [], ◌∷◌, length, None, Some, Option, IsTrue}
use Rattle.std.specs.List.{All}
use Rattle.rtl_bits.specs.declared.Bit.{Bit}
use Rattle.rtl_flat.specs.Flows.{body_flow}
use Rattle.rtl_flat.specs.Levels.{IsArrow, IsBehindCycle, IsLevel}
use Rattle.rtl_flat.specs.Paths.{MayWrite, MayWriteNow, ReadsOutside}
use Rattle.rtl_flat.specs.PathSets.{IsTemporaryOf, OfProcess, items_list}
use Rattle.rtl_flat.specs.Process.{Actions, Watched, Comb, Edge'}
use Rattle.event_model.specs.declared.policy.Policy.TheVariants.{Level}
use Rattle.event_model.specs.Order.{IsReady}
use Rattle.event_model.specs.Policies.{IsDone, IsTooDear, PolicyRun, budget, nonblocking_in}
use Rattle.event_model.specs.Queue.{State, IsAtRest, doing_at, is_assignment, offer, power_up}
use Rattle.rtl_flat.specs.Flats.{Flat, widths}
use Rattle.event_runs.specs.Writers.{IsOrderly}

-- ---- designs

-- a process that writes into a cone of signals: a continuous assignment that reads the cone alone
pub record IsConeDriver (d : Flat) (cone : ℕ → Type 0) (p : ℕ) : Type 0 where
  pub assigns : IsTrue (is_assignment (doing_at d p))
  pub reads : (i k : ℕ) → OfProcess ReadsOutside d.signals d.tasks p i k → cone i

-- a design that settles by level: each process without an edge runs after those that feed it; what blocks with an edge
-- write at once wakes no other; and what they wait for comes from a cone of signals that no nonblocking update changes
pub record IsSettling (d : Flat) (level : ℕ → Option ℕ) (cone : ℕ → Type 0) : Type 0 where
  -- the levels are those of the processes
  pub levels : (p : ℕ) → p < length d.tasks → IsLevel d.signals d.tasks p (level p)
  -- no process feeds itself
  pub no_cycle : (p : ℕ) → IsBehindCycle (IsArrow d.signals d.tasks) p → ⊥
  -- a block without edges has no nonblocking statement
  pub blocking :
      (p : ℕ) (list : Option (List Watched)) (body : Actions) →
      doing_at d p ≡ Some (Comb list body) → nonblocking_in body ≡ 0
  -- a block with an edge writes its temporaries alone at once
  pub temporaries :
      (p : ℕ) (events : List Watched) (body : Actions) → doing_at d p ≡ Some (Edge' events body) →
      (i k : ℕ) → MayWriteNow (body_flow (widths d) body) i k → IsTemporaryOf d.signals d.tasks p i
  -- what it lists lies in the cone
  pub items :
      (p : ℕ) (events : List Watched) (body : Actions) → doing_at d p ≡ Some (Edge' events body) →
      (i k : ℕ) → items_list (widths d) events i k ≡ true → cone i
  -- who drives the cone reads the cone alone
  pub drivers :
      (p i k : ℕ) → OfProcess MayWrite d.signals d.tasks p i k → cone i → IsConeDriver d cone p

-- ---- states and runs

-- a state in which a step may begin: no driver has a pending value
pub record IsBegun (d : Flat) (s : State) : Type 0 where
  pub orderly : IsOrderly d s
  pub drivers : (p : ℕ) → IsTrue (is_assignment (doing_at d p)) → s.pending p ≡ None

-- from where a step may begin the next event is never too dear
abbrev pub Settles : Flat → (ℕ → Option ℕ) → Type 0
Settles d level =
    (s t : State) (spent left : ℕ) →
    IsBegun d s → PolicyRun Level level d s spent t → left + spent ≡ budget d →
    IsTooDear Level level d t left → ⊥

-- a run to where the policy finds no event, within the budget; where nonblocking updates became active as soon as nothing
-- else was, no event is left there
pub record ComesToRest (d : Flat) (level : ℕ → Option ℕ) (s : State) : Type 0 where
  pub spent : ℕ
  pub state : State
  pub run : PolicyRun Level level d s spent state
  pub done : IsDone Level level d state
  pub within : spent ≤ budget d
  pub rest : IsReady d s → IsAtRest d state

abbrev pub Rests : Flat → (ℕ → Option ℕ) → Type 0
Rests d level = (s : State) → IsBegun d s → ComesToRest d level s

-- what a step offers to inputs is as wide as they are at most
abbrev pub Fits : Flat → List (ℕ × List Bit) → Type 0
Fits d step = All (λ one. length one.1 ≤ widths d one.0) step

-- steps from power-up, the last of them first, each from where the one before it has come to rest
pub data AreTaken (level : ℕ → Option ℕ) (d : Flat) : List (List (ℕ × List Bit)) → State → Type 0 where
  Begin : AreTaken level d [] (power_up d)
  Further :
      (steps : List (List (ℕ × List Bit))) (step : List (ℕ × List Bit)) (s t : State) (spent : ℕ) →
      AreTaken level d steps s → Fits d step →
      PolicyRun Level level d (offer s step) spent t → IsDone Level level d t →
      AreTaken level d (step ∷ steps) t

-- after any steps the next one begins where its run settles and comes to rest
abbrev pub StepsBegin : Flat → (ℕ → Option ℕ) → Type 0
StepsBegin d level =
    (steps : List (List (ℕ × List Bit))) (step : List (ℕ × List Bit)) (s : State) →
    AreTaken level d steps s → Fits d step → IsBegun d (offer s step) × IsReady d (offer s step)

-- it is never stopped for what an event costs
abbrev pub AlwaysSettles : Flat → (ℕ → Option ℕ) → Type 0
AlwaysSettles d level =
    (steps : List (List (ℕ × List Bit))) (step : List (ℕ × List Bit)) (s t : State) (spent left : ℕ) →
    AreTaken level d steps s → Fits d step →
    PolicyRun Level level d (offer s step) spent t → left + spent ≡ budget d →
    IsTooDear Level level d t left → ⊥
