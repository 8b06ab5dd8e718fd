-- It serves inner contracts and proofs; no answer of the program is stated by it.
-- What processes that wait for edges run where a clock, a reset or a gate changes.
use Rattle.std.specs.Prelude.{◌≡◌, ◌≢◌, ◌⊎◌, ℕ, ◌<◌, Bool, cond, List, [], ◌∷◌, length, map, Option, Some, None, slice_index_or}
use Rattle.std.specs.List.{slice_get}
use Rattle.std.specs.Option.{IsSomeAnd}
use Rattle.rtl_bits.specs.declared.Bit.{Bit}
use Rattle.rtl_bits.specs.Bits.{same_bit}
use Rattle.rtl_flat.specs.declared.act.Act.{Act}
use Rattle.rtl_flat.specs.declared.expr.SigId.{SigId}
use Rattle.rtl_flat.specs.Flows.{body_flow}
use Rattle.rtl_flat.specs.Paths.{MayWrite}
use Rattle.rtl_flat.specs.PathSets.{OfProcess}
use Rattle.rtl_flat.specs.Process.{Actions, action, body_of}
use Rattle.rtl_flat.specs.WellFormed.{IsBody}
use Rattle.event_model.specs.declared.setting.Setting.{Setting}
use Rattle.event_model.specs.Queue.{happens}
use Rattle.rtl_flat.specs.Flats.{Flat, widths}
use Rattle.event_model.specs.Traces.{Same}
use Rattle.event_model.specs.Writes.{Values}
use Rattle.net_model.specs.declared.fill.Fill.{Fill}
use Rattle.net_model.specs.Block.{block_bit}
use Rattle.net_model.specs.Cycle as cycle
use Rattle.net_model.specs.Cycle.{Chain, Guard, given_after, level}
use Rattle.net_model.specs.Numbers.{bit}
use Rattle.net_list.specs.check_chains.Views.{chain_view}
use Rattle.net_list.specs.declared.clocked.Clocked.{Clocked}
use Rattle.net_settle.specs.Settle.{setting_view}

-- ---- inputs

-- the input that is set, where one is
abbrev pub settings_of : Option Setting → List cycle.Setting
settings_of None = []
settings_of (Some setting) = setting_view setting ∷ []

-- the numbers with it
abbrev pub numbers_with : Values → Option Setting → Values
numbers_with n turn = given_after n (settings_of turn)

-- ---- one process

-- the first of some resets whose top input is at its level
abbrev pub active_of : Values → List Guard → List ℕ → Option Guard
active_of n [] tops = None
active_of n (guard ∷ guards) [] = None
active_of n (guard ∷ guards) (top ∷ tops) =
    cond (same_bit (bit n top 0) (level guard.item.edge)) (Some guard) (active_of n guards tops)

-- the branch of a reset, or where none is active the clocked part at the clock's edge
abbrev pub body_run : Option Guard → Bool → Actions → Option Actions
body_run (Some guard) edge part = Some guard.branch
body_run None edge part = cond edge (Some part) None

abbrev pub branch_of : Option Guard → Option Actions
branch_of None = None
branch_of (Some guard) = Some guard.branch

abbrev pub numbers_of : List SigId → List ℕ
numbers_of tops = map (λ (top : SigId). top.0) tops

-- what a process runs where inputs go from old numbers to new ones
abbrev pub run_of : Values → Values → Clocked → Option Actions
run_of old new one =
    body_run (active_of new (chain_view one.chain).resets (numbers_of one.resets.items)) (happens (chain_view one.chain).clock.edge (bit old one.clock.0 0) (bit new one.clock.0 0)) (chain_view one.chain).part

-- the plain form of what is run
abbrev pub view_of : List Act → Actions
view_of acts = body_of (map action acts)

-- a bit after it
abbrev pub run_bit : (ℕ → ℕ) → Fill → Values → Option Actions → ℕ → ℕ → Bit
run_bit ws f old None i k = bit old i k
run_bit ws f old (Some body) i k = block_bit ws f old body i k

-- what a process with a chain may run
abbrev pub IsPartOf : Chain → Actions → Type 0
IsPartOf chain body =
    (body ≡ chain.part) ⊎ ((place : ℕ) × IsSomeAnd (slice_get chain.resets place) (λ guard. guard.branch ≡ body))

-- ---- one process after another

-- a process, and what it runs
pub record Run : Type 0 where
  pub process : ℕ
  pub body : Option Actions

abbrev pub run_from : Values → Values → Clocked → Run
run_from old new one = record { process = one.process.0; body = run_of old new one }

abbrev pub runs_of : Values → Values → List Clocked → List Run
runs_of old new all = map (run_from old new) all

abbrev pub run_at : List Run → ℕ → Run
run_at runs t = slice_index_or runs t (record { process = 0; body = None })

-- runs of several processes, each of which writes its own bits alone
pub record AreRuns (d : Flat) (runs : List Run) : Type 0 where
  pub once : (s t : ℕ) → s < t → t < length runs → (run_at runs s).process ≢ (run_at runs t).process
  pub lawful : (t : ℕ) → t < length runs → (body : Actions) → (run_at runs t).body ≡ Some body → IsBody d.signals body
  pub own :
      (t : ℕ) → t < length runs → (body : Actions) → (run_at runs t).body ≡ Some body →
      (i k : ℕ) → MayWrite (body_flow (widths d) body) i k → OfProcess MayWrite d.signals d.tasks (run_at runs t).process i k

-- what is put aside after the first runs, each from the old numbers
pub record ArePut (d : Flat) (f : Fill) (old : Values) (runs : List Run) (j : ℕ) (after : Values) : Type 0 where
  pub taken :
      (t : ℕ) → t < j → (i k : ℕ) → OfProcess MayWrite d.signals d.tasks (run_at runs t).process i k →
      bit after i k ≡ run_bit (widths d) f old (run_at runs t).body i k
  pub others :
      (i k : ℕ) → ((t : ℕ) → t < j → OfProcess MayWrite d.signals d.tasks (run_at runs t).process i k → ⊥) →
      Same after old i k
