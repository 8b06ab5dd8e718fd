-- What trials of a design begin with: a netlist, its registers and latches, and the top inputs.
-- Worked examples: crates/tests_rows/stdin.
use Rattle.std.specs.Prelude.{◌≡◌, ◌↔◌, ℕ, Bool, true, List, [], Option, None, Some, replicate, unwrap_or}
use Rattle.std.specs.List.{slice_get}
use Rattle.rtl_bits.specs.declared.Bit.{Bit}
use Rattle.rtl_bits.specs.declared.Bit.TheVariants.{Zero}
use Rattle.rtl_flat.specs.declared.signal.Signal.{Signal}
use Rattle.rtl_flat.specs.Flats.{Flat, widths}
use Rattle.net_model.specs.Gates.{IsControl}
use Rattle.netlist_eval.specs.net_list.Faults.{AreAlone, AreFormed, IsContended, IsShapeless}
use Rattle.netlist_eval.specs.net_order.Order.{IsCyclic}
use Rattle.netlist_eval.specs.Steps.{HasNoCycle}
use Rattle.netlist_eval.specs.net_start.Stored.{AreInputs, AreStored}
use Rattle.demo_trials.specs.Trials.{start_of}

-- ---- netlists

-- registers and blocks are inferred, and no block is on or behind a cycle
pub record HasNetlist (d : Flat) : Type 0 where
  pub formed : AreFormed d
  pub alone : AreAlone d
  pub no_cycle : HasNoCycle d

-- a process has no form that synthesis takes, or a signal is on or behind a cycle of blocks
pub data LacksNetlist (d : Flat) : Type 0 where
  Shapeless : (process : ℕ) → IsShapeless d process → LacksNetlist d
  Contended : (process : ℕ) → IsContended d process → LacksNetlist d
  Cyclic : (signal : ℕ) → IsCyclic d signal → LacksNetlist d

-- ---- what trials begin with

-- registers and latches, and top inputs, by number; and which inputs are clocks, resets and gates
pub record Setup : Type 0 where
  pub stored : List ℕ
  pub tops : List ℕ
  pub is_control : ℕ → Bool

-- those of a design
pub record IsSetup (d : Flat) (setup : Setup) : Type 0 where
  pub are_stored : AreStored d setup.stored
  pub are_tops : AreInputs d setup.tops
  pub are_controls : (i : ℕ) → setup.is_control i ≡ true ↔ IsControl d i

-- the path of a signal
abbrev pub path_in : Option Signal → List ℕ
path_in None = []
path_in (Some signal) = signal.path

abbrev pub path_of : Flat → ℕ → List ℕ
path_of d i = path_in (slice_get d.signals i)

-- what a register, a latch or an input begins with in a trial: where the trial begins at power-up,
-- the netlist has 0
abbrev pub first_value : Flat → ℕ → ℕ → List Bit
first_value d trial i =
    unwrap_or (start_of trial (path_of d i) (widths d i))
    (replicate (widths d i) Zero)
