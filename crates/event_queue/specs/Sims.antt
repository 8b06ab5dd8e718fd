-- It serves inner contracts and proofs; no answer of the program is stated by it.
-- What a simulator shows, and what holds of it.
use Rattle.std.specs.Prelude.{◌≡◌, ◌<◌, ◌+◌, ◌*◌, ℕ, Bool, false, length, Option, Some}
use Rattle.std.specs.List.{slice_get}
use Rattle.rtl_flat.specs.declared.design.Design.{Design}
use Rattle.rtl_flat.specs.Levels.{IsLevel}
use Rattle.event_model.specs.declared.policy.Policy.{Policy}
use Rattle.event_model.specs.Order.{active, ready}
use Rattle.event_model.specs.Policies.{PolicyRun, budget, cost}
use Rattle.event_model.specs.Queue.{State, Event, after}
use Rattle.rtl_flat.specs.Flats.{Flat, flat}
use Rattle.event_tables.specs.event_write.QueueState.{design_of, state}
use Rattle.event_take.specs.Taken.{level_in}
use Rattle.event_queue.specs.declared.sim.EventSim.{EventSim}
use Rattle.event_queue.specs.Rooms.{load}

-- the design, the state of its queue, the levels of its processes, what is left of a step's budget, and whether a step
-- didn't settle
abbrev pub flat_of : EventSim → Flat
flat_of sim = design_of sim.fanout

abbrev pub state_of : EventSim → State
state_of sim = state sim.queue

abbrev pub level_of : EventSim → ℕ → Option ℕ
level_of sim = level_in sim.queue

abbrev pub left_of : EventSim → ℕ
left_of sim = sim.left

abbrev pub is_stuck : EventSim → Bool
is_stuck sim = sim.stuck

-- the work that may be left in a step
abbrev pub work : EventSim → ℕ
work sim = 2 * (sim.costs.share * sim.left) + sim.left + load sim.queue

-- what stays: the design, the levels of its processes, the budget of a step
pub record IsSame (s t : EventSim) : Type 0 where
  pub fanout : t.fanout ≡ s.fanout
  pub levels : t.queue.woken.levels ≡ s.queue.woken.levels
  pub costs : t.costs ≡ s.costs
  pub budget : t.budget ≡ s.budget

-- ---- where it begins

-- a simulator of a design in a state
pub record IsSimOf (given : Design) (s : State) (made : EventSim) : Type 0 where
  pub design : flat_of made ≡ flat given
  pub state : state_of made ≡ s
  pub left : left_of made ≡ budget (flat given)
  pub free : is_stuck made ≡ false
  pub levels : (p : ℕ) → p < length (flat given).tasks → IsLevel (flat given).signals (flat given).tasks p (level_of made p)

-- ---- steps

-- a policy's run that costs what is less left behind it than before
pub record Runs (policy : Policy) (level : ℕ → Option ℕ) (d : Flat) (s : State) (before : ℕ) (t : State) (left : ℕ) : Type 0 where
  pub spent : ℕ
  pub run : PolicyRun policy level d s spent t
  pub all : left + spent ≡ before

-- the active event before which so many are is taken, and paid
pub record IsTakenAt (place : ℕ) (s t : EventSim) : Type 0 where
  pub event : Event
  pub there : slice_get (active (flat_of s) (state_of s)) place ≡ Some event
  pub state : state_of t ≡ ready (flat_of s) (after (flat_of s) (state_of s) event)
  pub paid : left_of t + cost (flat_of s) event ≡ left_of s

-- it costs more than is left
pub record IsDearAt (place : ℕ) (s : EventSim) : Type 0 where
  pub event : Event
  pub there : slice_get (active (flat_of s) (state_of s)) place ≡ Some event
  pub dear : left_of s < cost (flat_of s) event
