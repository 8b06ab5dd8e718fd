-- It serves inner contracts and proofs; no answer of the program is stated by it.
-- How what may be x spreads from signal to signal.
use Rattle.std.specs.Prelude.{ℕ, zero, suc, Vec, ◌≡◌, ◌+◌, ◌<◌, ◌⊎◌, ◌↔◌, Bool, true, false, not, ◌&&◌, ◌||◌, nat_lt, List, [], ◌∷◌, length, Some, slice_index_or}
use Rattle.std.specs.List.{slice_get}
use Rattle.std.specs.declared.alloc.Global.{Global}
use Rattle.rtl_flat.specs.Flows.{flow_of}
use Rattle.rtl_flat.specs.Paths.{reads_outside}
use Rattle.rtl_flat.specs.Process.{Doing, Task}
use Rattle.rtl_rule.specs.Parts.{has_some, is_clocked, written}
use Rattle.rtl_flat.specs.Flats.{Flat, widths}
use Rattle.net_model.specs.Gates.{Gate, IsAdmitted, IsLatchBit}
use Rattle.check_chains.specs.Chains.{chain_of, has_chain}
use Rattle.check_unknown.specs.declared.doubt.Spread.{Spread}
use Rattle.check_unknown.specs.Unknowns.{IsDoubtful, IsUnreset}

abbrev pub Among : List ℕ → ℕ → Type 0
Among [] x = ⊥
Among (y ∷ ys) x = (x ≡ y) ⊎ Among ys x

abbrev pub is_marked : Spread → ℕ → Bool
is_marked spread s = slice_index_or spread.marked.items s false

-- how many signals aren't marked
abbrev pub left : List Bool → ℕ
left [] = 0
left (true ∷ marks) = left marks
left (false ∷ marks) = suc (left marks)

-- some signals are marked besides those that were, and wait for their readers
pub record Marks (P : ℕ → Bool) (old new : Spread) : Type 0 where
  pub same_length : length new.marked.items ≡ length old.marked.items
  pub from : (s : ℕ) → is_marked new s ≡ true → (is_marked old s ≡ true) ⊎ ((P s ≡ true) × Among new.waiting.items s)
  pub keeps : (s : ℕ) → is_marked old s ≡ true → is_marked new s ≡ true
  pub to : (s : ℕ) → s < length old.marked.items → P s ≡ true → is_marked new s ≡ true
  pub waits : (s : ℕ) → Among old.waiting.items s → Among new.waiting.items s
  pub only : (s : ℕ) → Among new.waiting.items s → Among old.waiting.items s ⊎ (is_marked new s ≡ true)
  pub count : left new.marked.items + length new.waiting.items ≡ left old.marked.items + length old.waiting.items

-- a process writes a signal, or reads it before it has written it
abbrev pub writes : Flat → Task → ℕ → Bool
writes d task s = has_some (widths d) (written d task.does) s

abbrev pub reads : Flat → Task → ℕ → Bool
reads d task s = has_some (widths d) (reads_outside (flow_of (widths d) task.does)) s

-- whether what a process holds may be x before anything spreads: it is a latch, or clocked without an asynchronous reset
abbrev pub is_unset : Flat → Bool → Doing → Bool
is_unset d latch does =
    latch || (is_clocked does && not (has_chain (λ chain. nat_lt 0 (length chain.resets)) (chain_of d does)))

-- what a process marks before anything spreads
abbrev pub starts : Flat → List Bool → Bool → Task → ℕ → Bool
starts d temporaries latch task s =
    is_unset d latch task.does && (writes d task s && not (slice_index_or temporaries s false))

-- which processes are latches with a gate from outside
abbrev pub AreLatches : Flat → List Bool → Type 0
AreLatches d gated =
    (p : ℕ) → slice_get gated p ≡ Some true ↔ ((gate : Gate) × IsAdmitted d p gate)

-- a process reads a signal that may be x
pub record IsReader (d : Flat) (p : ℕ) : Type 0 where
  pub signal : ℕ
  pub task : Task
  pub there : slice_get d.tasks p ≡ Some task
  pub doubtful : IsDoubtful d signal
  pub reads : reads d task signal ≡ true

abbrev pub is_seen : List Bool → ℕ → Bool
is_seen seen p = slice_index_or seen p false

-- what holds between the steps: what is marked may be x; registers without a reset and latches are
-- marked; what waits is marked; what a process writes that was looked at is
-- marked; and a process that reads what is marked was looked at, unless that waits or is the signal at hand
pub record IsSpreading (d : Flat) (current : ℕ) (seen : List Bool) (spread : Spread) : Type 0 where
  pub same_length : length spread.marked.items ≡ length d.signals
  pub sound : (s : ℕ) → is_marked spread s ≡ true → IsDoubtful d s
  pub began : (s : ℕ) → IsUnreset d s → is_marked spread s ≡ true
  pub latched : (s k : ℕ) → IsLatchBit d s k → is_marked spread s ≡ true
  pub waiting : (s : ℕ) → Among spread.waiting.items s → is_marked spread s ≡ true
  pub done : (p : ℕ) (task : Task) → slice_get d.tasks p ≡ Some task → is_seen seen p ≡ true → (s : ℕ) → writes d task s ≡ true → is_marked spread s ≡ true
  pub closed : (s p : ℕ) (task : Task) → is_marked spread s ≡ true → slice_get d.tasks p ≡ Some task → reads d task s ≡ true → (s ≡ current) ⊎ (Among spread.waiting.items s ⊎ (is_seen seen p ≡ true))

-- one process was looked at
pub record Visits (d : Flat) (p : ℕ) (seen : List Bool) (spread : Spread) (seen' : List Bool) (spread' : Spread) : Type 0 where
  pub same_length : length seen' ≡ length seen
  pub now : is_seen seen' p ≡ true
  pub stay : (q : ℕ) → is_seen seen q ≡ true → is_seen seen' q ≡ true
  pub waits : (s : ℕ) → Among spread.waiting.items s → Among spread'.waiting.items s
  pub count : left spread'.marked.items + length spread'.waiting.items ≡ left spread.marked.items + length spread.waiting.items
  pub spreads : (current : ℕ) → IsSpreading d current seen spread → IsSpreading d current seen' spread'

-- some processes were looked at
pub record Reaches (d : Flat) (row : List ℕ) (seen : List Bool) (spread : Spread) (seen' : List Bool) (spread' : Spread) : Type 0 where
  pub same_length : length seen' ≡ length seen
  pub now : (p : ℕ) → Among row p → is_seen seen' p ≡ true
  pub stay : (q : ℕ) → is_seen seen q ≡ true → is_seen seen' q ≡ true
  pub count : left spread'.marked.items + length spread'.waiting.items ≡ left spread.marked.items + length spread.waiting.items
  pub spreads : (current : ℕ) → IsSpreading d current seen spread → IsSpreading d current seen' spread'

-- ---- where it starts

-- the registers without a reset and the latches of the processes below a number are marked, and all that is marked waits
pub record IsStarting (d : Flat) (n : ℕ) (spread : Spread) : Type 0 where
  pub same_length : length spread.marked.items ≡ length d.signals
  pub sound : (s : ℕ) → is_marked spread s ≡ true → IsDoubtful d s
  pub began : (s : ℕ) (is : IsUnreset d s) → is.process < n → is_marked spread s ≡ true
  pub latched : (s k : ℕ) (is : IsLatchBit d s k) → is.process < n → is_marked spread s ≡ true
  pub waiting : (s : ℕ) → Among spread.waiting.items s → is_marked spread s ≡ true
  pub waits : (s : ℕ) → is_marked spread s ≡ true → Among spread.waiting.items s

-- ---- who reads a signal

-- the processes in the row of a signal
abbrev pub bucket : List (Vec ℕ Global) → ℕ → List ℕ
bucket [] s = []
bucket (row ∷ table) zero = row.items
bucket (row ∷ table) (suc s) = bucket table s

-- a process is put into the rows of some signals
pub record Notes (P : ℕ → Bool) (p : ℕ) (old new : List (Vec ℕ Global)) : Type 0 where
  pub same_length : length new ≡ length old
  pub from : (s q : ℕ) → Among (bucket new s) q → Among (bucket old s) q ⊎ ((q ≡ p) × (P s ≡ true))
  pub keeps : (s q : ℕ) → Among (bucket old s) q → Among (bucket new s) q
  pub to : (s : ℕ) → s < length old → P s ≡ true → Among (bucket new s) p

-- a process reads a signal before it has written it
pub record Reads (d : Flat) (s p : ℕ) : Type 0 where
  pub task : Task
  pub there : slice_get d.tasks p ≡ Some task
  pub reads : reads d task s ≡ true

-- the rows of signals have the processes below a number that read them, and no others
pub record AreReaders (d : Flat) (n : ℕ) (table : List (Vec ℕ Global)) : Type 0 where
  pub same_length : length table ≡ length d.signals
  pub sound : (s p : ℕ) → Among (bucket table s) p → Reads d s p
  pub all : (s p : ℕ) (task : Task) → p < n → slice_get d.tasks p ≡ Some task → reads d task s ≡ true → Among (bucket table s) p
