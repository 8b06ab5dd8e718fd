-- What each process of a design reads, writes and lists, and which signals are temporaries.
use Rattle.std.specs.Prelude.{ℕ, ◌≡◌, ◌↔◌, true, List, length, Some}
use Rattle.std.specs.List.{slice_get}
use Rattle.rtl_flat.specs.declared.signal.Signal.{Signal}
use Rattle.rtl_flat.specs.Process.{Task}
use Rattle.rtl_flat.specs.Paths.{BitSet, MayWrite, ReadsOutside, may_write, reads_outside}
use Rattle.rtl_flat.specs.PathSets.{IsTemporary, Lists, OfProcess, listed}
use Rattle.rtl_flat.specs.Flows.{flow_of}
use Rattle.rtl_scan.specs.declared.accesses.Accesses.{Accesses}
use Rattle.rtl_scan.specs.declared.bits.Bits.{Bits}
use Rattle.rtl_scan.specs.declared.usages.Access.{Access}
use Rattle.rtl_scan.specs.Sets.{IsInOrder, has_rows}

-- ---- one process

-- rows in order that have the bits of a set
pub record HasBits (bits : BitSet) (found : Bits) : Type 0 where
  pub same : (s k : ℕ) → has_rows found.rows.items s k ≡ bits s k
  pub order : IsInOrder found.rows.items

-- what a process reads, writes and lists
pub record IsAccess (ws : ℕ → ℕ) (task : Task) (access : Access) : Type 0 where
  pub reads : HasBits (reads_outside (flow_of ws task.does)) access.reads
  pub writes : HasBits (may_write (flow_of ws task.does)) access.writes
  pub lists : HasBits (listed ws task.does) access.lists

-- ---- all processes

-- rows in order that have exactly the bits of which a condition holds
pub record AreBits (P : ℕ → ℕ → Type 0) (found : Bits) : Type 0 where
  pub bits : (s k : ℕ) → has_rows found.rows.items s k ≡ true ↔ P s k
  pub order : IsInOrder found.rows.items

-- such rows of each process below a number, by a condition on a process and a bit
pub record AreOfEach (P : ℕ → ℕ → ℕ → Type 0) (n : ℕ) (sets : List Bits) : Type 0 where
  pub many : length sets ≡ n
  pub each : (p : ℕ) (found : Bits) → slice_get sets p ≡ Some found → AreBits (P p) found

-- what each process externally reads, may write and lists, and whether each signal is a temporary
pub record AreAccesses (signals : List Signal) (tasks : List Task) (found : Accesses) : Type 0 where
  pub reads : AreOfEach (OfProcess ReadsOutside signals tasks) (length tasks) found.reads.items
  pub writes : AreOfEach (OfProcess MayWrite signals tasks) (length tasks) found.writes.items
  pub lists : AreOfEach (Lists signals tasks) (length tasks) found.lists.items
  pub each_signal : length found.temporaries.items ≡ length signals
  pub temporaries : (s : ℕ) → slice_get found.temporaries.items s ≡ Some true ↔ IsTemporary signals tasks s
