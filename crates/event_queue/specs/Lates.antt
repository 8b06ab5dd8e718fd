-- It serves inner contracts and proofs; no answer of the program is stated by it.
-- The nonblocking assignments of bodies: how many, and how many parts they have.
use Rattle.std.specs.Prelude.{◌≡◌, ◌≤◌, ℕ, Bool, true, false}
use Rattle.rtl_flat.specs.Process.{Doing, Assign, Comb, Edge'}
use Rattle.event_tables.specs.event_write.Rooms.{rooms}
use Rattle.event_queue.specs.declared.bodies.Late.{Late}

-- so few that they can be counted
pub record IsFew (count parts : ℕ) : Type 0 where
  pub count_fits : count ≤ 1000000000000
  pub parts_fit : parts ≤ 1000000000000

pub record IsLate (count parts : ℕ) (found : Late) : Type 0 where
  pub count_is : found.count ≡ count
  pub parts_is : found.parts ≡ parts

abbrev pub parts_if : Bool → ℕ → ℕ
parts_if true parts = parts
parts_if false parts = 0

-- the parts of all nonblocking assignments of a process
abbrev pub room_in : Doing → ℕ
room_in (Assign target e) = 0
room_in (Comb list body) = rooms body
room_in (Edge' events body) = rooms body
