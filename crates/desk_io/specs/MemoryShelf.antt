-- It serves inner contracts and proofs; no answer of the program is stated by it.
-- What a shelf in memory holds.
use Rattle.std.specs.Prelude.{ℕ, option_map, vec_items}
use Rattle.std.specs.BTreeMap.{get_by_text}
use Rattle.desk_io.specs.Calls.{Schedule, schedule_of}
use Rattle.desk_io.specs.Shelf.{Files}
use Rattle.desk_io.specs.declared.shelf.memory.MemoryShelf.{MemoryShelf}

-- its files by name
abbrev pub held_files : MemoryShelf → Files
held_files shelf name = option_map vec_items (get_by_text shelf.files name)

-- its calls, and those that fail
abbrev pub schedule : MemoryShelf → Schedule
schedule shelf = schedule_of shelf.calls

-- how many of its calls have failed
abbrev pub fault_count : MemoryShelf → ℕ
fault_count shelf = shelf.faults
