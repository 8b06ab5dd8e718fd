-- What the desk does with the links of a door, and how many of them are told that it is unavailable.
-- Worked examples: crates/tests_serving/stdin.
use Rattle.std.specs.Prelude.{◌≡◌, ◌≤◌, ◌<◌, ◌+◌, ◌-◌, ◌^◌, ◌==◌, ℕ, Bool, false, List, count_by, None, Result}
use Rattle.desk_io.specs.declared.failed.Failed.{Failed}
use Rattle.desk_tables.specs.Rules.{broken_row}
use Rattle.desk_tables.specs.Tables.{Kept}
use Rattle.desk_links.specs.Doors.{Visits}
use Rattle.desk_core.specs.Serving.{ServesRightly}
use Rattle.desk_server.specs.Exchanges.{Around}
use Rattle.desk_server.specs.Servings.{ServesCount, served_of}
use Rattle.desk_server.specs.declared.exchange.Served.{Served}
use Rattle.desk_server.specs.declared.exchange.Served.TheVariants.{Replied, Dropped}

-- the reply of the status 503 was written
abbrev pub is_unavailable : Served → Bool
is_unavailable (Replied status) = status == 503
is_unavailable Dropped = false

abbrev pub unavailable_count : List Served → ℕ
unavailable_count served = count_by is_unavailable served

-- over tables that break no rule, no more links get a reply of the status 503 than the counts of
-- faults rose by, where neither count ends at the last value of a `u64`
abbrev pub AreFew : List Served → Around → Around → Kept → Type 0
AreFew served before after kept =
    broken_row kept ≡ None → after.clock < 2 ^ 64 - 1 → after.keeper < 2 ^ 64 - 1 →
    unavailable_count served ≤ (after.clock - before.clock) + (after.keeper - before.keeper)

-- the desk serves as many links as were wanted, or fewer where the door fails, and few of them get a
-- reply of the status 503
pub record DeskServes (count : ℕ) (result : Result Unit Failed) (around around' : Around) (kept kept' : Kept) (before after : Visits) : Type 0 where
  pub serves : ServesCount ServesRightly count result around around' kept kept' before after
  pub few : AreFew (served_of serves.served.run) around around' kept
