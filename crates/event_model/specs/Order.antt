-- The active events of a state in their order.
-- Worked examples: proofs/Example.antt.
use Rattle.std.specs.Prelude.{◌≡◌, ◌≢◌, ◌↔◌, ℕ, List, [], ◌∷◌, ◌++◌, map, length, is_some, Bool, ◌&&◌, cond}
use Rattle.std.specs.List.{filter, range_with_len, Contains}
use Rattle.event_model.specs.Writes.{Write}
use Rattle.event_model.specs.Queue.{State, Event, Input, Evaluate, Update, Run, Delayed, Activate, after, doing_at, is_input, is_assignment, IsThere}
use Rattle.rtl_flat.specs.Flats.{Flat}

-- the numbers below a limit that pass a test, in order
abbrev pub numbers : ℕ → (ℕ → Bool) → List ℕ
numbers limit test = filter test (range_with_len 0 limit)

-- the event that a woken process is
abbrev pub woken_event : Flat → ℕ → Event
woken_event d p = cond (is_assignment (doing_at d p)) (Evaluate p) (Run p)

-- the updates of inputs, by signal
abbrev pub inputs : Flat → State → List ℕ
inputs d s = numbers (length d.signals) (λ i. is_input d i && is_some (s.offered i))

-- the updates of drivers, by process
abbrev pub updates : Flat → State → List ℕ
updates d s = numbers (length d.tasks) (λ p. is_assignment (doing_at d p) && is_some (s.pending p))

-- the woken processes, by number
abbrev pub woken : Flat → State → List ℕ
woken d s = numbers (length d.tasks) s.woken

-- the first of the activated nonblocking updates
abbrev pub first_delayed : List (List Write) → List Event
first_delayed [] = []
first_delayed (ws ∷ others) = Delayed ∷ []

-- all active events: inputs, drivers, processes, and then the first activated update
abbrev pub active : Flat → State → List Event
active d s =
    map Input (inputs d s) ++ map Update (updates d s) ++ map (woken_event d) (woken d s) ++ first_delayed s.activated

-- an event that may be taken and is active: each but the one that makes nonblocking updates active
abbrev pub IsActive : Flat → State → Event → Type 0
IsActive d s event = IsThere d s event × (event ≢ Activate)

-- the list of active events has just those that are so
abbrev pub HasAllActive : Flat → State → Type 0
HasAllActive d s = (event : Event) → Contains (active d s) event ↔ IsActive d s event

-- where no active event is left, the nonblocking updates become active
abbrev pub ready_where : Flat → State → List Event → State
ready_where d s [] = after d s Activate
ready_where d s (event ∷ events) = s

abbrev pub ready : Flat → State → State
ready d s = ready_where d s (active d s)

-- whether nonblocking updates wait only behind active events
abbrev pub IsReady : Flat → State → Type 0
IsReady d s = active d s ≡ [] → s.delayed ≡ []

-- whether the list has just the events that may be taken
abbrev pub HasAll : Flat → State → Type 0
HasAll d s = (event : Event) → Contains (active d s) event ↔ IsThere d s event
