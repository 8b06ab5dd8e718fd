-- Values at rest, and designs whose equations have one solution.
use Rattle.std.specs.Prelude.{◌≡◌, ◌⊎◌, ℕ, ◌<◌, Bool, true, false, ◌||◌, cond, List, Option, Some, IsTrue}
use Rattle.std.specs.List.{list_any}
use Rattle.rtl_bits.specs.Bit.{is_one, is_unknown}
use Rattle.rtl_bits.specs.Bits.{has_unknown, same_bit, tabulate, truth_bit}
use Rattle.text_ground.specs.declared.text.Spot.{Spot}
use Rattle.rtl_flat.specs.Expression.{Tree}
use Rattle.rtl_flat.specs.Flows.{body_flow, flow_of, may_target}
use Rattle.rtl_flat.specs.Levels.{IsArrow, IsNode}
use Rattle.rtl_flat.specs.Paths.{IsSure, MayWrite, ReadsOutside, may_write}
use Rattle.rtl_flat.specs.PathSets.{OfProcess}
use Rattle.rtl_flat.specs.Process.{Actions, Assign, Comb, Done, If, Piece, Then, Watched, Without}
use Rattle.rtl_flat.specs.Value.{value}
use Rattle.event_model.specs.Queue.{doing_at, is_input}
use Rattle.rtl_flat.specs.Flats.{Flat, widths}
use Rattle.event_model.specs.Traces.{FollowsPath, Same}
use Rattle.event_model.specs.Writes.{Values, driven}
use Rattle.event_runs.specs.event_laws.Steady.{AreLawful, HaveWidths}
use Rattle.net_model.specs.declared.fill.Fill.{Fill}
use Rattle.net_model.specs.Control.{IsBehind}
use Rattle.net_model.specs.Cycle.{opened}
use Rattle.net_model.specs.Gates.{Gate, IsAdmitted, IsLatchBit, is_open}
use Rattle.net_model.specs.Numbers.{bit, fill_bit, filled_bit}
use Rattle.net_model.specs.Solution.{IsLasting, IsRegisterBit}
use Rattle.event_runs.specs.Laws.{HaveSoleDrivers}
use Rattle.event_runs.specs.Plain.{IsConsistent, IsPlain}
use Rattle.net_laws.specs.Tame.{AreExclusive, AreTame, IsFirm}

-- ---- designs

-- a bit that some process without edges may write
pub record IsComputed (d : Flat) (i k : ℕ) : Type 0 where
  pub process : ℕ
  pub node : IsNode d.tasks process
  pub may : OfProcess MayWrite d.signals d.tasks process i k

-- a bit that another process may write
pub record IsOthers (d : Flat) (p i k : ℕ) : Type 0 where
  pub process : ℕ
  pub other : process ≡ p → ⊥
  pub may : OfProcess MayWrite d.signals d.tasks process i k

-- a bit that changes by an input or by another process
abbrev pub IsFromOutside : Flat → ℕ → ℕ → ℕ → Type 0
IsFromOutside d p i k = IsTrue (is_input d i) ⊎ IsOthers d p i k

-- a body writes each bit that it may write on every path, unless it is a temporary's
abbrev pub WritesAll : Flat → Actions → Actions → Type 0
WritesAll d body branch =
    (i k : ℕ) → MayWrite (body_flow (widths d) body) i k → IsLasting d i →
    IsSure (body_flow (widths d) branch) i k

-- a block without edges that computes its variables as synthesis does, and holds none of them but as a latch with a gate
pub record IsComputing (d : Flat) (p : ℕ) (list : Option (List Watched)) (body : Actions) : Type 0 where
  pub plain : IsPlain d p list body
  pub tame : AreTame d body
  pub exclusive : AreExclusive d body
  pub computes : WritesAll d body body ⊎ ((gate : Gate) × IsAdmitted d p gate)

-- what a latch with a gate does: its branch where the gate is open, and nothing else
pub record IsGated (d : Flat) (body : Actions) (gate : Gate) : Type 0 where
  pub test : Tree
  pub branch : Actions
  pub spot : Spot
  pub whole : opened body ≡ Then (If test branch Without spot) Done
  pub input : IsTrue (is_input d gate.input)
  pub behind : IsBehind d gate.input gate.signal
  pub one_bit : widths d gate.signal ≡ 1
  pub outside : ReadsOutside (body_flow (widths d) body) gate.signal 0
  pub tests :
      (v : Values) → HaveWidths d v → is_one (truth_bit (value v test)) ≡ same_bit (bit v gate.signal 0) gate.opens
  pub sure : WritesAll d body branch

-- a lawful design whose equations have one solution, where `level` orders its processes
pub record IsSolvable (d : Flat) (level : ℕ → ℕ) : Type 0 where
  pub lawful : AreLawful d
  -- a process comes after those that feed it
  pub ascends : (p q : ℕ) → IsArrow d.signals d.tasks p q → level p < level q
  -- each bit that lasts is an input's or a register's, or is computed
  pub sourced :
      (i k : ℕ) → k < widths d i → IsLasting d i →
      IsTrue (is_input d i) ⊎ (IsRegisterBit d i k ⊎ IsComputed d i k)
  -- a continuous assignment has a known value where signals are known
  pub firm : (p : ℕ) (target : List Piece) (e : Tree) → doing_at d p ≡ Some (Assign target e) → IsFirm d e
  -- and drives its bits alone
  pub sole : HaveSoleDrivers d
  -- blocks without edges compute
  pub computing :
      (p : ℕ) (list : Option (List Watched)) (body : Actions) →
      doing_at d p ≡ Some (Comb list body) → IsComputing d p list body
  -- latches with gates are what they are
  pub gated :
      (p : ℕ) (list : Option (List Watched)) (body : Actions) → doing_at d p ≡ Some (Comb list body) →
      (gate : Gate) → IsAdmitted d p gate → IsGated d body gate

-- ---- latches that are closed

-- a bit of a latch whose gate is closed, where `given` has what inputs are
pub record IsHeldBit (d : Flat) (given : Values) (i k : ℕ) : Type 0 where
  pub latch : IsLatchBit d i k
  pub closed : is_open given latch.gate ≡ false

-- such bits are given as they are held
abbrev pub AreHeld : Flat → Values → Values → Type 0
AreHeld d held given = (i k : ℕ) → IsHeldBit d given i k → Same held given i k

-- ---- values

-- inputs, register bits and bits of closed latches are known
pub record AreGiven (d : Flat) (given : Values) : Type 0 where
  pub inputs : (i : ℕ) → IsTrue (is_input d i) → has_unknown (given i) ≡ false
  pub registers : (i k : ℕ) → IsRegisterBit d i k → is_unknown (bit given i k) ≡ false
  pub latches : (i k : ℕ) → IsHeldBit d given i k → is_unknown (bit given i k) ≡ false

-- values at rest: inputs, register bits and bits of closed latches as given, and what each process without edges makes of the
-- values is there
pub record IsIdle (d : Flat) (given v : Values) : Type 0 where
  pub wide : HaveWidths d v
  pub inputs : (i : ℕ) → IsTrue (is_input d i) → v i ≡ given i
  pub kept : (i k : ℕ) → IsRegisterBit d i k → bit v i k ≡ bit given i k
  pub held : (i k : ℕ) → IsHeldBit d given i k → bit v i k ≡ bit given i k
  pub driven :
      (p : ℕ) (target : List Piece) (e : Tree) →
      doing_at d p ≡ Some (Assign target e) →
      (i k : ℕ) → may_target (widths d) target i k ≡ true →
      bit v i k ≡ bit (driven (widths d) target (value v e)) i k
  pub consistent :
      (p : ℕ) (list : Option (List Watched)) (body : Actions) →
      doing_at d p ≡ Some (Comb list body) →
      FollowsPath (widths d) v body → IsConsistent d v body

-- whether values are the same in each bit that lasts
abbrev pub AreAlike : Flat → Values → Values → Type 0
AreAlike d v u = (i k : ℕ) → IsLasting d i → Same v u i k

-- whether inputs, register bits and bits of closed latches are given alike
pub record AreGivenAlike (d : Flat) (given other : Values) : Type 0 where
  pub inputs : (i : ℕ) → IsTrue (is_input d i) → given i ≡ other i
  pub registers : (i k : ℕ) → IsRegisterBit d i k → Same given other i k
  pub latches : (i k : ℕ) → IsHeldBit d given i k → Same given other i k

-- ---- numbers

-- whether some process may write a bit
abbrev pub is_written : Flat → ℕ → ℕ → Bool
is_written d i k = list_any (λ task. may_write (flow_of (widths d) task.does) i k) d.tasks

-- the numbers of values: the fill stands for a bit that isn't known, and for one that nothing writes
abbrev pub numbers_of : Flat → Fill → Values → Values
numbers_of d f v i =
    tabulate (widths d i) (λ k. cond (is_input d i || is_written d i k) (filled_bit f (bit v i k)) (fill_bit f))
