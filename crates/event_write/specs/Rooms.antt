-- It serves inner contracts and proofs; no answer of the program is stated by it.
-- How many prepared writes a body may make for later.
use Rattle.std.specs.Prelude.{◌≡◌, ◌≤◌, ℕ, ◌+◌, Bool, true, false, List, length, vec_capacity}
use Rattle.rtl_flat.specs.Process.{Piece, Action, Set, If, Case, Block, Actions, Done, Then, Otherwise, Without, With, Branches, NoBranch, Branch}
use Rattle.event_write.specs.declared.queue_state.QueueState.{QueueState}

abbrev pub late_parts : Bool → List Piece → ℕ
late_parts true target = length target
late_parts false target = 0

abbrev mutual
  -- the parts of all nonblocking assignments of a statement, whether they run or not
  pub room : Action → ℕ
  room (Set target value delayed spot) = late_parts delayed target
  room (If test taken other spot) = rooms taken + other_room other
  room (Case kind full parallel selector branches fallback spot) = branch_rooms branches + other_room fallback
  room (Block body) = rooms body

  pub rooms : Actions → ℕ
  rooms Done = 0
  rooms (Then first others) = room first + rooms others

  pub other_room : Otherwise → ℕ
  other_room Without = 0
  other_room (With body) = rooms body

  pub branch_rooms : Branches → ℕ
  branch_rooms NoBranch = 0
  branch_rooms (Branch labels body others) = rooms body + branch_rooms others

-- what a body leaves as it was, where it makes at most so many prepared writes for later
pub record IsKept (most : ℕ) (m n : QueueState) : Type 0 where
  pub waiting : length n.waiting.items ≤ length m.waiting.items + most
  pub room : vec_capacity m.waiting ≤ vec_capacity n.waiting
  pub scratch : vec_capacity m.scratch ≤ vec_capacity n.scratch
  pub levels : n.woken.levels ≡ m.woken.levels
  pub active : n.active ≡ m.active
  pub next : n.next ≡ m.next
