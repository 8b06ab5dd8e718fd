-- It serves inner contracts and proofs; no answer of the program is stated by it.
-- Who feeds whom, from tables: who writes each signal, and who feeds each process.
use Rattle.std.specs.Prelude.{ℕ, zero, suc, ◌≡◌, ◌<◌, ◌≤◌, ◌+◌, ◌⊎◌, ◌↔◌, Bool, true, false, not, ◌&&◌, ◌||◌, ◌==◌, bit_and, List, [], ◌∷◌, length, Vec, Option, Some, None, slice_index_or}
use Rattle.std.specs.declared.alloc.Global.{Global}
use Rattle.std.specs.List.{AllByRecursion, slice_get}
use Rattle.std.specs.Option.{IsSomeAnd}
use Rattle.rtl_flat.specs.declared.signal.Signal.{Signal}
use Rattle.rtl_flat.specs.declared.act.Process.{Process}
use Rattle.rtl_flat.specs.Process.{Doing, Assign, Comb, Edge', Task, doing}
use Rattle.rtl_flat.specs.Paths.{BitSet, MayWrite, ReadsOutside, may_write, reads_outside}
use Rattle.rtl_flat.specs.Flats.{flat, widths}
use Rattle.rtl_flat.specs.Flows.{flow_of}
use Rattle.rtl_flat.specs.PathSets.{Lists, OfProcess, listed}
use Rattle.rtl_flat.specs.Levels.{IsLevel, IsNode}
use Rattle.rtl_bits.specs.Bits.{is_one_at}
use Rattle.rtl_scan.specs.declared.bits.Row.{Row}
use Rattle.rtl_scan.specs.declared.arrows.Writer.{Writer}
use Rattle.rtl_scan.specs.declared.arrows.Feeders.{Feeders}
use Rattle.rtl_scan.specs.declared.bits.Bits.{Bits}
use Rattle.rtl_scan.specs.declared.feeds.Accessed.{Accessed}
use Rattle.rtl_scan.specs.declared.feeds.Waits.{Waits}
use Rattle.rtl_scan.specs.declared.feeds.Waits.TheVariants.{Reads, ReadsAndLists}
use Rattle.rtl_scan.specs.Sets.{has_rows}
use Rattle.rtl_scan.specs.Graph.{row, ArrowIn}

abbrev pub Among : List ℕ → ℕ → Type 0
Among [] x = ⊥
Among (y ∷ ys) x = (x ≡ y) ⊎ Among ys x

-- numbers that rise
abbrev pub AreRising : List ℕ → Type 0
AreRising [] = Unit {0}
AreRising (one ∷ others) = AllByRecursion (λ other. one < other) others × AreRising others

-- ---- who writes bits of each signal

-- the writers in the row of a signal
abbrev pub bucket : List (Vec Writer Global) → ℕ → List Writer
bucket [] s = []
bucket (writers ∷ table) zero = writers.items
bucket (writers ∷ table) (suc s) = bucket table s

-- a process writes a bit by one of some writers
abbrev pub WritesIn : List Writer → ℕ → ℕ → Type 0
WritesIn [] p k = ⊥
WritesIn (writer ∷ writers) p k =
    ((p ≡ writer.process) × (is_one_at writer.mask k ≡ true)) ⊎ WritesIn writers p k

abbrev pub InTable : List (Vec Writer Global) → ℕ → ℕ → ℕ → Type 0
InTable table p s k = WritesIn (bucket table s) p k

-- a table gets writers besides its own
pub record Grows (P : ℕ → ℕ → ℕ → Type 0) (old new : List (Vec Writer Global)) : Type 0 where
  pub each : (p s k : ℕ) → InTable new p s k ↔ (InTable old p s k ⊎ P p s k)

abbrev pub IsPut : ℕ → Writer → ℕ → ℕ → ℕ → Type 0
IsPut place writer p s k = (s ≡ place) × (p ≡ writer.process) × (is_one_at writer.mask k ≡ true)

-- a process is put into the rows of the signals of some rows
abbrev pub IsNotedAt : List Row → ℕ → ℕ → ℕ → ℕ → Type 0
IsNotedAt rows process p s k = (has_rows rows s k ≡ true) × (p ≡ process)

-- ---- who feeds a process

-- a process feeds another by what it writes, and itself where that counts
abbrev pub MayCome : Bool → ℕ → ℕ → Type 0
MayCome itself q p = (itself ≡ true) ⊎ (p ≡ q → ⊥)

abbrev pub comes : Writer → ℕ → Bool → ℕ → Bool
comes writer mask itself q =
    not (bit_and writer.mask mask == 0) && (itself || not (writer.process == q))

-- a process is one of some writers of bits in a mask
abbrev pub MeetsIn : List Writer → ℕ → Bool → ℕ → ℕ → Type 0
MeetsIn writers mask itself q p =
    ((k : ℕ) × (is_one_at mask k ≡ true) × WritesIn writers p k) × MayCome itself q p

-- a process waits for a bit that another writes
abbrev pub IsAwaited : List (Vec Writer Global) → BitSet → ℕ → Type 0
IsAwaited table bits p = (s k : ℕ) × (bits s k ≡ true) × InTable table p s k

abbrev pub FedBy : List (Vec Writer Global) → BitSet → Bool → ℕ → ℕ → Type 0
FedBy table bits itself q p = IsAwaited table bits p × MayCome itself q p

-- what is marked as seen is in the row, and no mark is for a later process
pub record AreSeen (found : Feeders) : Type 0 where
  pub most : (p : ℕ) → slice_index_or found.seen.items p 0 ≤ found.process + 1
  pub there : (p : ℕ) → slice_index_or found.seen.items p 0 ≡ found.process + 1 → Among found.row.items p

-- processes are added to those that feed one
pub record Gathers (P : ℕ → Type 0) (old new : Feeders) : Type 0 where
  pub same : new.process ≡ old.process
  pub seen : AreSeen old → AreSeen new
  pub each : AreSeen old → (p : ℕ) → Among new.row.items p ↔ (Among old.row.items p ⊎ P p)

-- ---- what processes access

-- the bits of each process, in order of the processes
pub record AreOf (set : Task → BitSet) (tasks : List Task) (kept : List Bits) : Type 0 where
  pub many : length kept ≡ length tasks
  pub each :
      (p : ℕ) (found : Bits) (task : Task) → slice_get kept p ≡ Some found → slice_get tasks p ≡ Some task →
      (s k : ℕ) → has_rows found.rows.items s k ≡ set task s k

-- what the processes of a design may write, externally read and list
pub record AreAccessed (given : Accessed) : Type 0 where
  pub writes :
      AreOf (λ task. may_write (flow_of (widths (flat given.design.now)) task.does))
      (flat given.design.now).tasks given.writes.now
  pub reads :
      AreOf (λ task. reads_outside (flow_of (widths (flat given.design.now)) task.does))
      (flat given.design.now).tasks given.reads.now
  pub lists :
      AreOf (λ task. listed (widths (flat given.design.now)) task.does)
      (flat given.design.now).tasks given.lists.now

-- ---- arrows

-- whether a process waits for what it lists
abbrev pub lists_count : Waits → Bool
lists_count Reads = false
lists_count ReadsAndLists = true

-- an arrow: p may write a bit for which q waits
pub record IsFeeding (waits : Waits) (signals : List Signal) (tasks : List Task) (p q : ℕ) : Type 0 where
  pub «from» : IsNode tasks p
  pub to : IsNode tasks q
  pub signal : ℕ
  pub bit : ℕ
  pub written : OfProcess MayWrite signals tasks p signal bit
  pub wanted :
      OfProcess ReadsOutside signals tasks q signal bit
      ⊎ ((lists_count waits ≡ true) × (p ≡ q → ⊥) × Lists signals tasks q signal bit)

abbrev pub is_node : Doing → Bool
is_node (Assign target value) = true
is_node (Comb list body) = true
is_node (Edge' events body) = false

-- a process without an edge writes a bit
abbrev pub IsWriting : (ℕ → ℕ) → ℕ → ℕ → Task → Type 0
IsWriting ws s k task =
    (is_node task.does ≡ true) × (may_write (flow_of ws task.does) s k ≡ true)

abbrev pub IsNoted : (ℕ → ℕ) → Task → ℕ → ℕ → ℕ → ℕ → Type 0
IsNoted ws task number p s k = IsWriting ws s k task × (p ≡ number)

-- the processes below a number that write each bit
pub record AreWriters (ws : ℕ → ℕ) (tasks : List Task) (n : ℕ) (table : List (Vec Writer Global)) : Type 0 where
  pub each : (p s k : ℕ) → InTable table p s k ↔ ((p < n) × IsSomeAnd (slice_get tasks p) (IsWriting ws s k))

abbrev pub IsFed : Waits → (ℕ → ℕ) → List (Vec Writer Global) → ℕ → ℕ → Task → Type 0
IsFed waits ws table p q task =
    (is_node task.does ≡ true) × (IsAwaited table (reads_outside (flow_of ws task.does)) p ⊎ ((lists_count waits ≡ true) × (p ≡ q → ⊥) × IsAwaited table (listed ws task.does) p))

-- the processes that feed one, if none of them was seen of a later one
pub record AreFeeders (waits : Waits) (ws : ℕ → ℕ) (table : List (Vec Writer Global)) (task : Task) (q : ℕ) (seen : List ℕ) (found : Feeders) : Type 0 where
  pub each : ((p : ℕ) → slice_index_or seen p 0 ≤ q) → (p : ℕ) → Among found.row.items p ↔ IsFed waits ws table p q task
  pub most : ((p : ℕ) → slice_index_or seen p 0 ≤ q) → (p : ℕ) → slice_index_or found.seen.items p 0 ≤ q + 1

pub record AreFed (waits : Waits) (ws : ℕ → ℕ) (tasks : List Task) (table : List (Vec Writer Global)) (n : ℕ) (rows : List (Vec ℕ Global)) : Type 0 where
  pub each : (p q : ℕ) → Among (row rows q) p ↔ ((q < n) × IsSomeAnd (slice_get tasks q) (IsFed waits ws table p q))
  pub same_length : length rows ≡ n

-- the rows of all arrows
pub record AreArrows (waits : Waits) (signals : List Signal) (tasks : List Task) (rows : List (Vec ℕ Global)) : Type 0 where
  pub same_length : length rows ≡ length tasks
  pub each : (p q : ℕ) → ArrowIn rows p q ↔ IsFeeding waits signals tasks p q

-- a process with an edge has no level
abbrev pub level_of : Bool → Option ℕ → Option ℕ
level_of true depth = depth
level_of false depth = None

pub record AreKept (processes : List Process) (depths : List (Option ℕ)) (n : ℕ) (levels : List (Option ℕ)) : Type 0 where
  pub same_length : length levels ≡ n
  pub each : (p : ℕ) (x : Process) → p < n → slice_get processes p ≡ Some x → slice_index_or levels p None ≡ level_of (is_node (doing x.does)) (slice_index_or depths p None)

pub record AreLevels (signals : List Signal) (tasks : List Task) (levels : List (Option ℕ)) : Type 0 where
  pub same_length : length levels ≡ length tasks
  pub each : (p : ℕ) → p < length tasks → IsLevel signals tasks p (slice_index_or levels p None)
