-- It serves inner contracts and proofs; no answer of the program is stated by it.
-- What a sink in memory holds.
use Rattle.std.specs.Prelude.{ℕ, List}
use Rattle.desk_io.specs.Calls.{Schedule, schedule_of}
use Rattle.desk_io.specs.declared.sink.memory.MemorySink.{MemorySink}

-- the bytes that it took
abbrev pub taken_bytes : MemorySink → List ℕ
taken_bytes sink = sink.taken.items

-- the most bytes that one call takes
abbrev pub most_bytes : MemorySink → ℕ
most_bytes sink = sink.most

-- its calls, and those that fail
abbrev pub schedule : MemorySink → Schedule
schedule sink = schedule_of sink.calls

-- how many of its calls have failed
abbrev pub fault_count : MemorySink → ℕ
fault_count sink = sink.faults
