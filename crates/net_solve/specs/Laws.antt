-- Solutions of designs without cycles.
use Rattle.std.specs.Prelude.{◌≡◌, ◌≢◌, ℕ, ◌+◌, ◌<◌, true, false, List, length, IsTrue, Option, Some}
use Rattle.std.specs.List.{slice_index_or}
use Rattle.rtl_flat.specs.Expression.{Tree}
use Rattle.rtl_flat.specs.Flows.{body_flow, may_target}
use Rattle.rtl_flat.specs.Levels.{IsNode}
use Rattle.rtl_flat.specs.Paths.{MayWrite}
use Rattle.rtl_flat.specs.PathSets.{OfProcess}
use Rattle.rtl_flat.specs.Process.{Actions, Assign, Comb, Piece, Watched}
use Rattle.event_model.specs.Queue.{doing_at, is_input}
use Rattle.rtl_flat.specs.Flats.{Flat, widths}
use Rattle.event_model.specs.Traces.{Same}
use Rattle.event_model.specs.Writes.{Values, driven}
use Rattle.net_rest.specs.event_laws.Steady.{AreLawful}
use Rattle.net_model.specs.declared.fill.Fill.{Fill}
use Rattle.net_model.specs.Block.{block_bit}
use Rattle.net_model.specs.Numbers.{AreNumbers, bit, digits, fill_bit}
use Rattle.net_model.specs.Solution.{IsRegisterBit, IsSolution, start}
use Rattle.net_rest.specs.Rest.{AreAlike}
use Rattle.net_solve.specs.Feeds.{IsFeed}

-- ---- one solution

-- numbers that rank a process behind those that feed it: there are some where no process is on or behind a cycle
abbrev pub Ascends : Flat → (ℕ → ℕ) → Type 0
Ascends d rank = (p q : ℕ) → IsFeed d.signals d.tasks p q → rank p < rank q

-- whether inputs and register bits are given alike
pub record HaveLikeSources (d : Flat) (given other : Values) : Type 0 where
  pub inputs : (i : ℕ) → IsTrue (is_input d i) → given i ≡ other i
  pub registers : (i k : ℕ) → IsRegisterBit d i k → Same given other i k

-- solutions for the same inputs, registers and held numbers are the same in each bit that lasts
abbrev pub AreSame : Flat → Type 0
AreSame d =
    (f : Fill) (held given given' n m : Values) →
    HaveLikeSources d given given' → IsSolution d f held given n → IsSolution d f held given' m → AreAlike d n m

-- ---- processes that are worked out

-- no bit may be written by two processes
abbrev pub AreApart : Flat → Type 0
AreApart d =
    (p q i k : ℕ) → OfProcess MayWrite d.signals d.tasks p i k → OfProcess MayWrite d.signals d.tasks q i k → p ≡ q

-- numbers after one process is worked out: it gives its bits, and leaves all others
pub record IsWorked (d : Flat) (f : Fill) (p : ℕ) (old new : Values) : Type 0 where
  pub numbers : AreNumbers d new
  pub assigns :
      (target : List Piece) (e : Tree) → doing_at d p ≡ Some (Assign target e) →
      (i k : ℕ) → may_target (widths d) target i k ≡ true →
      bit new i k ≡ bit (driven (widths d) target (digits f old e)) i k
  pub blocks :
      (list : Option (List Watched)) (body : Actions) → doing_at d p ≡ Some (Comb list body) →
      (i k : ℕ) → MayWrite (body_flow (widths d) body) i k →
      bit new i k ≡ block_bit (widths d) f old body i k
  pub others : (i k : ℕ) → (OfProcess MayWrite d.signals d.tasks p i k → ⊥) → Same new old i k

-- the process at a place
abbrev pub place : List ℕ → ℕ → ℕ
place order j = slice_index_or order j 0

-- each process without edges once, and behind those that feed it
pub record IsOrder (d : Flat) (order : List ℕ) : Type 0 where
  pub nodes : (j : ℕ) → j < length order → IsNode d.tasks (place order j)
  pub all : (p : ℕ) → IsNode d.tasks p → (j : ℕ) × (j < length order) × (place order j ≡ p)
  pub once : (i j : ℕ) → i < j → j < length order → place order i ≢ place order j
  pub behind :
      (i j : ℕ) → i < length order → j < length order →
      IsFeed d.signals d.tasks (place order i) (place order j) → i < j

-- a design that can be worked out
pub record IsWorkable (d : Flat) : Type 0 where
  pub lawful : AreLawful d
  pub apart : AreApart d

-- numbers with which it begins: inputs and registers as given, what blocks may write as held, and what nothing gives with
-- the fill
pub record IsBeginning (d : Flat) (f : Fill) (held given n : Values) : Type 0 where
  pub numbers : AreNumbers d n
  pub inputs : (i : ℕ) → IsTrue (is_input d i) → n i ≡ given i
  pub kept : (i k : ℕ) → IsRegisterBit d i k → bit n i k ≡ bit given i k
  pub latched :
      (p : ℕ) (list : Option (List Watched)) (body : Actions) → doing_at d p ≡ Some (Comb list body) →
      (i k : ℕ) → MayWrite (body_flow (widths d) body) i k → Same n held i k
  pub others :
      (i k : ℕ) → k < widths d i → is_input d i ≡ false →
      ((p : ℕ) → OfProcess MayWrite d.signals d.tasks p i k → ⊥) → bit n i k ≡ fill_bit f

-- what is kept while processes are worked out in an order, of which `j` are done
pub record AreDone (d : Flat) (f : Fill) (order : List ℕ) (begun : Values) (j : ℕ) (n : Values) : Type 0 where
  pub numbers : AreNumbers d n
  -- what none of them writes is as it was
  pub untouched :
      (i k : ℕ) → ((t : ℕ) → t < j → OfProcess MayWrite d.signals d.tasks (place order t) i k → ⊥) → Same n begun i k
  -- each of them gives its bits
  pub assigns :
      (t : ℕ) → t < j → (target : List Piece) (e : Tree) → doing_at d (place order t) ≡ Some (Assign target e) →
      (i k : ℕ) → may_target (widths d) target i k ≡ true →
      bit n i k ≡ bit (driven (widths d) target (digits f n e)) i k
  pub blocks :
      (t : ℕ) → t < j → (list : Option (List Watched)) (body : Actions) →
      doing_at d (place order t) ≡ Some (Comb list body) →
      (i k : ℕ) → MayWrite (body_flow (widths d) body) i k →
      bit n i k ≡ block_bit (widths d) f (start d body begun n) body i k

-- processes that are worked out in order: none, one more, and all, which solve the equations
pub record WorkedSolve (d : Flat) : Type 0 where
  pub none : (f : Fill) (order : List ℕ) (begun : Values) → AreNumbers d begun → AreDone d f order begun 0 begun
  pub more :
      (f : Fill) (order : List ℕ) (begun : Values) (j : ℕ) (n m : Values) →
      IsOrder d order → j < length order → AreNumbers d begun →
      AreDone d f order begun j n → IsWorked d f (place order j) n m → AreDone d f order begun (j + 1) m
  pub all :
      (f : Fill) (order : List ℕ) (held given begun n : Values) →
      IsOrder d order → IsBeginning d f held given begun →
      AreDone d f order begun (length order) n → IsSolution d f held given n
