-- It serves inner contracts and proofs; no answer of the program is stated by it.
-- The room and the work of delayed updates.
use Rattle.std.specs.Prelude.{◌≡◌, ◌≤◌, ◌+◌, ◌*◌, ℕ, Bool, true, false, List, [], ◌∷◌, length, vec_capacity}
use Rattle.event_model.specs.Queue.{Event, Run, Delayed, doing_at}
use Rattle.rtl_flat.specs.Flats.{Flat}
use Rattle.event_tables.specs.event_write.declared.queue_state.QueueState.{QueueState}
use Rattle.event_tables.specs.event_write.QueueState.{state}
use Rattle.event_take.specs.Rooms.{room_of}

-- whether a list is empty
abbrev pub is_nil : List Event → Bool
is_nil [] = true
is_nil (event ∷ events) = false

-- how many prepared writes an event makes for later, at most
abbrev pub room_for : Flat → Event → ℕ
room_for d (Run p) = room_of (doing_at d p)
room_for d _ = 0

-- how many activated updates an event makes
abbrev pub free : Event → ℕ
free Delayed = 1
free _ = 0

-- the work that is left in delayed updates: they are activated, and then made
abbrev pub load : QueueState → ℕ
load m = 2 * length m.waiting.items + length (state m).activated

-- what an event leaves, where it makes at most so many prepared writes for later, and so many activated updates
pub record IsTaken (most done : ℕ) (m n : QueueState) : Type 0 where
  pub levels : n.woken.levels ≡ m.woken.levels
  pub waiting : length n.waiting.items ≤ length m.waiting.items + most
  pub room : vec_capacity m.waiting ≤ vec_capacity n.waiting
  pub scratch : vec_capacity m.scratch ≤ vec_capacity n.scratch
  pub active : n.active ≡ m.active
  pub load : load n + done ≤ load m + 2 * most

-- what becomes of queue where nonblocking updates may become active: room that both lists of updates have stays
pub record IsMadeReady (m n : QueueState) : Type 0 where
  pub levels : n.woken.levels ≡ m.woken.levels
  pub waiting : length n.waiting.items ≤ length m.waiting.items
  pub room : (most : ℕ) → most ≤ vec_capacity m.waiting → most ≤ vec_capacity m.active → (most ≤ vec_capacity n.waiting) × (most ≤ vec_capacity n.active)
  pub scratch : vec_capacity m.scratch ≤ vec_capacity n.scratch
  pub load : load n ≤ load m
