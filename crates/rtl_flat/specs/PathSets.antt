-- What processes read, write, surely write and list, and which variables are temporaries.
-- Worked examples: crates/tests_layers/stdin.
use Rattle.std.specs.Prelude.{ℕ, ◌≡◌, ◌⊎◌, true, false, List, [], ◌∷◌, Some, None}
use Rattle.std.specs.List.{slice_get}
use Rattle.std.specs.Option.{IsSomeAnd}
use Rattle.rtl_flat.specs.declared.signal.Signal.{Signal}
use Rattle.rtl_flat.specs.declared.signal.Kind.TheVariants.{Var}
use Rattle.rtl_flat.specs.Signs.{Has, width_in}
use Rattle.rtl_flat.specs.Process.{Watched, Doing, Assign, Comb, Edge', Task}
use Rattle.rtl_flat.specs.Paths.{BitSet, no_bit, either, Flow, MayWrite, MayWriteLate, MayRead, ReadsOutside, may_read}
use Rattle.rtl_flat.specs.Flows.{may_select, flow_of}

-- ---- one process

-- whether a bit is in a set of paths of the process with a number, which is there
abbrev pub OfProcess : (Flow → ℕ → ℕ → Type 0) → List Signal → List Task → ℕ → ℕ → ℕ → Type 0
OfProcess P signals tasks p s k =
    IsSomeAnd (slice_get tasks p) (λ task. P (flow_of (width_in signals) task.does) s k)

-- ---- sensitivity lists (IEEE 1364-2001 sections 9.7.4 and 9.7.5)

-- the bits that some items list: those of a constant select, else all of a signal
abbrev pub items_list : (ℕ → ℕ) → List Watched → BitSet
items_list ws [] = no_bit
items_list ws (item ∷ others) =
    either (may_select ws item.signal item.selection) (items_list ws others)

-- the bits that a process lists: `@*` lists what the body reads; an assignment has no list
abbrev pub listed : (ℕ → ℕ) → Doing → BitSet
listed ws (Assign target value) = no_bit
listed ws (Comb None body) = may_read (flow_of ws (Comb None body))
listed ws (Comb (Some items) body) = items_list ws items
listed ws (Edge' events body) = items_list ws events

-- whether the process with a number, which is there, lists a bit
abbrev pub Lists : List Signal → List Task → ℕ → ℕ → ℕ → Type 0
Lists signals tasks p s k =
    IsSomeAnd (slice_get tasks p) (λ task. listed (width_in signals) task.does s k ≡ true)

-- ---- temporaries

-- a process writes a signal
pub record Writes (ws : ℕ → ℕ) (task : Task) (s : ℕ) : Type 0 where
  pub bit : ℕ
  pub written : MayWrite (flow_of ws task.does) s bit

-- a process writes, reads or lists a bit of a signal
pub record Uses (ws : ℕ → ℕ) (task : Task) (s : ℕ) : Type 0 where
  pub bit : ℕ
  pub used : MayWrite (flow_of ws task.does) s bit ⊎ (MayRead (flow_of ws task.does) s bit ⊎ (listed ws task.does s bit ≡ true))

-- a variable that no output shows, that one process alone writes, reads and lists, that it writes by
-- blocking assignments alone, and that it never reads before it has written what it reads
pub record IsTemporaryOf (signals : List Signal) (tasks : List Task) (p : ℕ) (s : ℕ) : Type 0 where
  pub variable : Has (λ x. x.kind ≡ Var) signals s
  pub inner : Has (λ x. x.top_output ≡ false) signals s
  pub writes : IsSomeAnd (slice_get tasks p) (λ task. Writes (width_in signals) task s)
  pub blocking : IsSomeAnd (slice_get tasks p) (λ task. (k : ℕ) → MayWriteLate (flow_of (width_in signals) task.does) s k → ⊥)
  pub inside : IsSomeAnd (slice_get tasks p) (λ task. (k : ℕ) → ReadsOutside (flow_of (width_in signals) task.does) s k → ⊥)
  pub alone : (q : ℕ) → (q ≡ p → ⊥) → IsSomeAnd (slice_get tasks q) (λ task. Uses (width_in signals) task s) → ⊥

-- a temporary of some process
pub record IsTemporary (signals : List Signal) (tasks : List Task) (s : ℕ) : Type 0 where
  pub process : ℕ
  pub of_process : IsTemporaryOf signals tasks process s
