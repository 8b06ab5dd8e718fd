-- It serves inner contracts and proofs; no answer of the program is stated by it.
-- What a keeper in memory holds.
use Rattle.std.specs.Prelude.{ℕ}
use Rattle.desk_io.specs.Calls.{Schedule, schedule_of}
use Rattle.desk_tables.specs.Tables.{Kept, kept_of}
use Rattle.desk_tables.specs.declared.keeper.memory.MemoryKeeper.{MemoryKeeper}

-- its tables
abbrev pub held : MemoryKeeper → Kept
held keeper = kept_of keeper.tables

-- its calls, and those that fail
abbrev pub schedule : MemoryKeeper → Schedule
schedule keeper = schedule_of keeper.calls

-- how many of its calls have failed
abbrev pub fault_count : MemoryKeeper → ℕ
fault_count keeper = keeper.faults
