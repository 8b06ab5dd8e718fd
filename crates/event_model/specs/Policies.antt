-- The three orders in which a simulator takes events, and how much it takes in one step.
-- Worked examples: proofs/Example.antt.
use Rattle.std.specs.Prelude.{ℕ, suc, ◌+◌, ◌*◌, ◌≡◌, ◌<◌, nat_lt, Bool, true, false, cond, List, [], ◌∷◌, ◌++◌, map, length, sum_by, Option, None, Some}
use Rattle.rtl_flat.specs.Process.{Action, Set, If, Case, Block, Actions, Done, Then, Otherwise, Without, With, Branches, NoBranch, Branch, Doing, Assign, Comb, Edge'}
use Rattle.event_model.specs.declared.policy.Policy.{Policy}
use Rattle.event_model.specs.declared.policy.Policy.TheVariants.{Level, Ascending, Descending}
use Rattle.event_model.specs.Queue.{State, Event, Input, Evaluate, Update, Run, Delayed, Activate, after, doing_at, is_input_kind, is_assignment}
use Rattle.rtl_flat.specs.Flats.{Flat}
use Rattle.event_model.specs.Order.{active, inputs, updates, woken, woken_event, first_delayed, ready}

-- ---- which event is taken next

-- the first and the last of a list
abbrev pub first_of : {A : Type 0} → List A → Option A
first_of [] = None
first_of (x ∷ xs) = Some x

abbrev pub last_of : {A : Type 0} → List A → Option A
last_of [] = None
last_of (x ∷ []) = Some x
last_of (x ∷ y ∷ ys) = last_of (y ∷ ys)

-- whether a level comes before another; none comes last
abbrev pub is_below : Option ℕ → Option ℕ → Bool
is_below (Some a) (Some b) = nat_lt a b
is_below (Some a) None = true
is_below None b = false

-- of numbers in ascending order the one of least level, and of those the least
abbrev pub lower : (ℕ → Option ℕ) → ℕ → Option ℕ → ℕ
lower level p None = p
lower level p (Some q) = cond (is_below (level q) (level p)) q p

abbrev pub lowest : (ℕ → Option ℕ) → List ℕ → Option ℕ
lowest level [] = None
lowest level (p ∷ ps) = Some (lower level p (lowest level ps))

abbrev pub lowest_event : Flat → Option ℕ → List Event
lowest_event d None = []
lowest_event d (Some p) = woken_event d p ∷ []

-- inputs, then drivers, then nonblocking updates, and then the woken process of least level
abbrev pub by_level : (ℕ → Option ℕ) → Flat → State → List Event
by_level level d s =
    map Input (inputs d s) ++ map Update (updates d s) ++ first_delayed s.activated ++ lowest_event d (lowest level (woken d s))

-- the event that a policy takes next, where an active one is left
abbrev pub chosen : Policy → (ℕ → Option ℕ) → Flat → State → Option Event
chosen Level level d s = first_of (by_level level d s)
chosen Ascending level d s = first_of (active d s)
chosen Descending level d s = last_of (active d s)

-- ---- what it costs

abbrev pub late : Bool → ℕ
late true = 1
late false = 0

abbrev mutual
  -- the nonblocking assignments in a body, whether they run or not
  pub nonblocking : Action → ℕ
  nonblocking (Set target e delayed spot) = late delayed
  nonblocking (If test taken other spot) = nonblocking_in taken + nonblocking_other other
  nonblocking (Case kind full parallel selector branches fallback spot) =
      nonblocking_branches branches + nonblocking_other fallback
  nonblocking (Block body) = nonblocking_in body

  pub nonblocking_in : Actions → ℕ
  nonblocking_in Done = 0
  nonblocking_in (Then first others) = nonblocking first + nonblocking_in others

  pub nonblocking_other : Otherwise → ℕ
  nonblocking_other Without = 0
  nonblocking_other (With body) = nonblocking_in body

  pub nonblocking_branches : Branches → ℕ
  nonblocking_branches NoBranch = 0
  nonblocking_branches (Branch labels body others) =
      nonblocking_in body + nonblocking_branches others

abbrev pub nonblocking_of : Doing → ℕ
nonblocking_of (Assign target e) = 0
nonblocking_of (Comb list body) = nonblocking_in body
nonblocking_of (Edge' events body) = nonblocking_in body

abbrev pub run_cost : Option Doing → ℕ
run_cost None = 1
run_cost (Some does) = suc (nonblocking_of does)

-- the cost of an event: a nonblocking update is paid for where its body runs
abbrev pub cost : Flat → Event → ℕ
cost d (Input i) = 1
cost d (Evaluate p) = 1
cost d (Update p) = 1
cost d (Run p) = run_cost (doing_at d p)
cost d Delayed = 0
cost d Activate = 0

abbrev pub one_if : Bool → ℕ
one_if true = 1
one_if false = 0

-- what all events of one step may cost
abbrev pub budget : Flat → ℕ
budget d =
    4 * length d.tasks
    + sum_by (λ task. nonblocking_of task.does) d.tasks
    + sum_by (λ signal. one_if (is_input_kind signal.kind)) d.signals
    + sum_by (λ task. one_if (is_assignment (Some task.does))) d.tasks

-- ---- runs of a policy

-- a run in which each event is the one that the policy takes next, with its cost; after each of them nonblocking
-- updates become active where nothing else is left
pub data PolicyRun (policy : Policy) (level : ℕ → Option ℕ) (d : Flat) : State → ℕ → State → Type 0 where
  Here : (s : State) → PolicyRun policy level d s 0 s
  Next : (s t : State) (spent : ℕ) (event : Event) → PolicyRun policy level d s spent t → chosen policy level d t ≡ Some event → PolicyRun policy level d s (spent + cost d event) (ready d (after d t event))

-- the policy finds nothing more to take
abbrev pub IsDone : Policy → (ℕ → Option ℕ) → Flat → State → Type 0
IsDone policy level d s = chosen policy level d s ≡ None

-- the next event costs more than is left
pub record IsTooDear (policy : Policy) (level : ℕ → Option ℕ) (d : Flat) (s : State) (left : ℕ) : Type 0 where
  pub event : Event
  pub next : chosen policy level d s ≡ Some event
  pub dear : left < cost d event
