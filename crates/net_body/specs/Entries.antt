-- It serves inner contracts and proofs; no answer of the program is stated by it.
-- Writes that are prepared.
use Rattle.std.specs.Prelude.{◌+◌, ◌≤◌, ◌<◌, List, [], ◌∷◌, ◌++◌, length}
use Rattle.std.specs.Option.{option_map}
use Rattle.rtl_flat.specs.declared.signal.Signal.{Signal}
use Rattle.rtl_flat.specs.Signs.{width_in}
use Rattle.event_model.specs.Writes.{Write, write_at}
use Rattle.net_body.specs.declared.entries.Entry.{Entry}
use Rattle.net_number.specs.Spans.{span}

-- the write that an entry is, if its index selects a bit
abbrev pub entry_writes : Entry → List Write
entry_writes entry = write_at entry.signal.0 (option_map span entry.span) entry.bits

abbrev pub all_writes : List Entry → List Write
all_writes [] = []
all_writes (entry ∷ others) = entry_writes entry ++ all_writes others

-- a write to bits that a signal has
pub record IsInside (signals : List Signal) (w : Write) : Type 0 where
  pub there : w.signal < length signals
  pub inside : w.at + length w.bits ≤ width_in signals w.signal
