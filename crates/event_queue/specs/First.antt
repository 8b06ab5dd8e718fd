-- It serves inner contracts and proofs; no answer of the program is stated by it.
-- What is kept of each signal and each process where a simulator begins.
use Rattle.std.specs.Prelude.{◌≡◌, ◌≤◌, ℕ, Bool, List, [], ◌∷◌, replicate, Option, None, Some, false, length, vec_capacity}
use Rattle.std.specs.List.{slice_get}
use Rattle.rtl_bits.specs.declared.Bit.{Bit}
use Rattle.rtl_bits.specs.declared.Bit.TheVariants.{Z}
use Rattle.rtl_flat.specs.declared.signal.Signal.{Signal}
use Rattle.rtl_flat.specs.Process.{Doing, Assign, Comb, Edge'}
use Rattle.rtl_flat.specs.Sizes.{width_of}
use Rattle.rtl_flat.specs.Value.{value}
use Rattle.event_model.specs.Writes.{Values}
use Rattle.event_model.specs.Queue.{State, doing_at, first_bit}
use Rattle.rtl_flat.specs.Flats.{Flat, widths}
use Rattle.event_tables.specs.event_write.declared.queue_state.QueueState.{QueueState}
use Rattle.event_tables.specs.event_write.QueueState.{HasWidth, IsQueueState, driver_of, state}

abbrev pub first_value : Signal → List Bit
first_value signal = replicate signal.width (first_bit signal.kind)

-- z for each bit that an assignment drives, and one z for a body
abbrev pub blank : (ℕ → ℕ) → Doing → List Bit
blank ws (Assign target e) = replicate (width_of ws e) Z
blank ws (Comb list body) = Z ∷ []
blank ws (Edge' events body) = Z ∷ []

-- what an assignment drives before its first update; a body drives nothing
abbrev pub first_driver : (ℕ → ℕ) → Doing → Option (List Bit)
first_driver ws (Assign target e) = Some (replicate (width_of ws e) Z)
first_driver ws (Comb list body) = None
first_driver ws (Edge' events body) = None

-- what an assignment drives that is up to date
abbrev pub now_driver : Values → Doing → Option (List Bit)
now_driver v (Assign target e) = Some (value v e)
now_driver v (Comb list body) = None
now_driver v (Edge' events body) = None

-- what the process with a number drives
abbrev pub driver_in : List (Option (List Bit)) → ℕ → List Bit
driver_in drivers p = driver_of (slice_get drivers p)

-- a driver for each process, as wide as its expression
pub record AreDriven (d : Flat) (drivers : List (Option (List Bit))) : Type 0 where
  pub count : length drivers ≡ length d.tasks
  pub each : (p : ℕ) → HasWidth (widths d) (doing_at d p) (length (driver_in drivers p))

-- a state with values and drivers, in which so many processes are woken, and nothing else is to be done
abbrev pub quiet : Values → (ℕ → Bool) → (ℕ → List Bit) → State
quiet v woken driver =
    record { value = v; woken = woken; driver = driver; pending = λ p. None; offered = λ i. None; activated = []; delayed = [] }

-- room for so many prepared writes, of which there are none yet
pub record HasRoom (room : ℕ) (m : QueueState) : Type 0 where
  pub none : m.waiting.items ≡ []
  pub waiting : room ≤ vec_capacity m.waiting
  pub active : room ≤ vec_capacity m.active
  pub scratch : 128 ≤ vec_capacity m.scratch

-- queue in which no process is woken
pub record IsFresh (d : Flat) (v : Values) (driver : ℕ → List Bit) (given : List (Option ℕ)) (most : ℕ) (m : QueueState) : Type 0 where
  pub queue : IsQueueState d m
  pub state : state m ≡ quiet v (λ p. false) driver
  pub flags : m.woken.flags ≡ replicate (length d.tasks) false
  pub levels : m.woken.levels ≡ given
  pub room : HasRoom most m

-- queue that are a state from which a simulator begins
pub record IsFirst (d : Flat) (s : State) (given : List (Option ℕ)) (most : ℕ) (m : QueueState) : Type 0 where
  pub queue : IsQueueState d m
  pub state : state m ≡ s
  pub levels : m.woken.levels ≡ given
  pub room : HasRoom most m
