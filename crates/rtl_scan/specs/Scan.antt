-- It serves inner contracts and proofs; no answer of the program is stated by it.
-- What a pass over statements adds to its sets, where it begins with some bits surely written.
use Rattle.std.specs.Prelude.{ℕ, ◌≡◌, Bool, true, false, not, ◌&&◌, ◌||◌, List}
use Rattle.rtl_flat.specs.Expression.{Tree}
use Rattle.rtl_flat.specs.Process.{Piece, Branches, NoBranch, Branch}
use Rattle.rtl_flat.specs.Paths.{BitSet, either, Step, Read, Write, End, Do, reads_bit, may_write_bit, may_write_late, Flow, Ways, some, every, first, some_way, every_way, first_way, may_write, may_write_delayed}
use Rattle.rtl_flat.specs.Flows.{body_flow, reads, target_reads, may_target, targets}
use Rattle.rtl_scan.specs.declared.bits.Row.{Row}
use Rattle.rtl_scan.specs.declared.scan.Counted.{Counted}
use Rattle.rtl_scan.specs.Counting.{counts}
use Rattle.rtl_scan.specs.declared.scan.Sets.{Sets}
use Rattle.rtl_scan.specs.Sets.{has, has_rows}

-- what statements do, given the bits that they read before they write
-- them, may write, may write by nonblocking assignments, and surely write
pub record Scanned (read written delayed sure : BitSet) (t : Sets) (log : List Row) (u : Sets) (log' : List Row) : Type 0 where
  pub reads : (s k : ℕ) → has u.reads.masks s k ≡ (has t.reads.masks s k || (not (has t.done.masks s k) && read s k))
  pub writes : (s k : ℕ) → has u.writes.masks s k ≡ (has t.writes.masks s k || written s k)
  pub late : (s k : ℕ) → has u.late.masks s k ≡ (has t.late.masks s k || delayed s k)
  pub done : (s k : ℕ) → has u.done.masks s k ≡ (has t.done.masks s k || sure s k)
  pub logged : (s k : ℕ) → has_rows log' s k ≡ (has_rows log s k || (not (has t.done.masks s k) && sure s k))

-- what the ways of a fork do: the rows are what each of them surely writes besides what was written
pub record WayScanned (read written delayed sure : BitSet) (t u : Sets) (kept : List Row) : Type 0 where
  pub reads : (s k : ℕ) → has u.reads.masks s k ≡ (has t.reads.masks s k || (not (has t.done.masks s k) && read s k))
  pub writes : (s k : ℕ) → has u.writes.masks s k ≡ (has t.writes.masks s k || written s k)
  pub late : (s k : ℕ) → has u.late.masks s k ≡ (has t.late.masks s k || delayed s k)
  pub done : (s k : ℕ) → has u.done.masks s k ≡ has t.done.masks s k
  pub sure_rows : (s k : ℕ) → has_rows kept s k ≡ (not (has t.done.masks s k) && sure s k)

-- what further ways do to the rows of those before them
pub record AlsoScanned (read written delayed sure : BitSet) (t : Sets) (kept : List Row) (u : Sets) (kept' : List Row) : Type 0 where
  pub reads : (s k : ℕ) → has u.reads.masks s k ≡ (has t.reads.masks s k || (not (has t.done.masks s k) && read s k))
  pub writes : (s k : ℕ) → has u.writes.masks s k ≡ (has t.writes.masks s k || written s k)
  pub late : (s k : ℕ) → has u.late.masks s k ≡ (has t.late.masks s k || delayed s k)
  pub done : (s k : ℕ) → has u.done.masks s k ≡ has t.done.masks s k
  pub sure_rows : (s k : ℕ) → has_rows kept' s k ≡ (has_rows kept s k && (has t.done.masks s k || sure s k))

-- ---- for flows, ways and items

abbrev pub reads_in : Counted → Flow → BitSet
reads_in counted flow s k = first (reads_bit s k) (counts counted s k) flow

abbrev pub sure_in : Counted → Flow → BitSet
sure_in counted flow s k = every (counts counted s k) flow

abbrev pub FlowScanned : Counted → Flow → Sets → List Row → Sets → List Row → Type 0
FlowScanned counted flow t log u log' =
    Scanned (reads_in counted flow) (may_write flow) (may_write_delayed flow) (sure_in counted flow) t log u log'

abbrev pub WaysScanned : Counted → Ways → Sets → Sets → List Row → Type 0
WaysScanned counted ways t u kept =
    WayScanned (λ s k. first_way (reads_bit s k) (counts counted s k) ways) (λ s k. some_way (may_write_bit s k) ways) (λ s k. some_way (may_write_late s k) ways) (λ s k. every_way (counts counted s k) ways) t u kept

abbrev pub some_item : (Step → Bool) → (ℕ → ℕ) → Branches → Bool
some_item f ws NoBranch = false
some_item f ws (Branch labels body others) = some f (body_flow ws body) || some_item f ws others

abbrev pub every_item : (Step → Bool) → (ℕ → ℕ) → Branches → Bool
every_item f ws NoBranch = true
every_item f ws (Branch labels body others) = every f (body_flow ws body) && every_item f ws others

abbrev pub first_item : (Step → Bool) → (Step → Bool) → (ℕ → ℕ) → Branches → Bool
first_item f g ws NoBranch = false
first_item f g ws (Branch labels body others) =
    first f g (body_flow ws body) || first_item f g ws others

abbrev pub FlowAlso : Counted → Flow → Sets → List Row → Sets → List Row → Type 0
FlowAlso counted flow t kept u kept' =
    AlsoScanned (reads_in counted flow) (may_write flow) (may_write_delayed flow) (sure_in counted flow) t kept u kept'

abbrev pub ItemsAlso : Counted → (ℕ → ℕ) → Branches → Sets → List Row → Sets → List Row → Type 0
ItemsAlso counted ws items t kept u kept' =
    AlsoScanned (λ s k. first_item (reads_bit s k) (counts counted s k) ws items) (λ s k. some_item (may_write_bit s k) ws items) (λ s k. some_item (may_write_late s k) ws items) (λ s k. every_item (counts counted s k) ws items) t kept u kept'

-- ---- parts of a pass

-- bits that are read
pub record Reads (bits : BitSet) (t u : Sets) : Type 0 where
  pub reads : (s k : ℕ) → has u.reads.masks s k ≡ (has t.reads.masks s k || (not (has t.done.masks s k) && bits s k))
  pub writes : (s k : ℕ) → has u.writes.masks s k ≡ has t.writes.masks s k
  pub late : (s k : ℕ) → has u.late.masks s k ≡ has t.late.masks s k
  pub done : (s k : ℕ) → has u.done.masks s k ≡ has t.done.masks s k

-- rows that are surely written
pub record Commits (kept : List Row) (t : Sets) (log : List Row) (u : Sets) (log' : List Row) : Type 0 where
  pub reads : (s k : ℕ) → has u.reads.masks s k ≡ has t.reads.masks s k
  pub writes : (s k : ℕ) → has u.writes.masks s k ≡ has t.writes.masks s k
  pub late : (s k : ℕ) → has u.late.masks s k ≡ has t.late.masks s k
  pub done : (s k : ℕ) → has u.done.masks s k ≡ (has t.done.masks s k || has_rows kept s k)
  pub logged : (s k : ℕ) → has_rows log' s k ≡ (has_rows log s k || (not (has t.done.masks s k) && has_rows kept s k))

-- rows that are no more
pub record Restores (log : List Row) (t u : Sets) : Type 0 where
  pub reads : (s k : ℕ) → has u.reads.masks s k ≡ has t.reads.masks s k
  pub writes : (s k : ℕ) → has u.writes.masks s k ≡ has t.writes.masks s k
  pub late : (s k : ℕ) → has u.late.masks s k ≡ has t.late.masks s k
  pub done : (s k : ℕ) → has u.done.masks s k ≡ (has t.done.masks s k && not (has_rows log s k))

-- ---- assignments

-- the steps of an assignment: the write, and the reads before it
abbrev pub write_flow : (ℕ → ℕ) → List Piece → Bool → Flow
write_flow ws target delayed = Do (Write delayed (may_target ws target) (targets ws target)) End

abbrev pub assign_flow : (ℕ → ℕ) → List Piece → Tree → Bool → Flow
assign_flow ws target value delayed =
    Do (Read (either (reads ws value) (target_reads ws target))) (write_flow ws target delayed)

abbrev pub connect_flow : (ℕ → ℕ) → List Piece → Tree → Flow
connect_flow ws target value = Do (Read (reads ws value)) (write_flow ws target false)

-- ---- processes

-- what a process adds, whatever it logs
pub record ScannedOver (counted : Counted) (flow : Flow) (t u : Sets) : Type 0 where
  pub reads : (s k : ℕ) → has u.reads.masks s k ≡ (has t.reads.masks s k || (not (has t.done.masks s k) && reads_in counted flow s k))
  pub writes : (s k : ℕ) → has u.writes.masks s k ≡ (has t.writes.masks s k || may_write flow s k)
  pub late : (s k : ℕ) → has u.late.masks s k ≡ (has t.late.masks s k || may_write_delayed flow s k)
  pub done : (s k : ℕ) → has u.done.masks s k ≡ (has t.done.masks s k || sure_in counted flow s k)

-- what a process does from nothing
pub record HasScanned (counted : Counted) (flow : Flow) (t : Sets) : Type 0 where
  pub reads : (s k : ℕ) → has t.reads.masks s k ≡ reads_in counted flow s k
  pub writes : (s k : ℕ) → has t.writes.masks s k ≡ may_write flow s k
  pub late : (s k : ℕ) → has t.late.masks s k ≡ may_write_delayed flow s k
  pub done : (s k : ℕ) → has t.done.masks s k ≡ sure_in counted flow s k
