-- It serves inner contracts and proofs; no answer of the program is stated by it.
-- How many prepared writes an event makes for later.
use Rattle.std.specs.Prelude.{◌≡◌, ℕ, Option, None, Some}
use Rattle.rtl_flat.specs.Process.{Doing, Assign, Comb, Edge'}
use Rattle.event_write.specs.declared.queue_state.QueueState.{QueueState}
use Rattle.event_write.specs.Rooms.{rooms}

-- the parts of all nonblocking assignments of a process
abbrev pub room_of : Option Doing → ℕ
room_of None = 0
room_of (Some (Assign target e)) = 0
room_of (Some (Comb list body)) = rooms body
room_of (Some (Edge' events body)) = rooms body

-- whether all prepared writes stay, and the levels of processes
pub record IsStill (m n : QueueState) : Type 0 where
  pub levels : n.woken.levels ≡ m.woken.levels
  pub active : n.active ≡ m.active
  pub next : n.next ≡ m.next
  pub waiting : n.waiting ≡ m.waiting
  pub scratch : n.scratch ≡ m.scratch
