-- What a comparison of a dump with synthesised hardware answers.
-- Worked examples: crates/tests_departures/stdin.
use Rattle.std.specs.Prelude.{◌≡◌, ◌+◌, ◌<◌, ℕ, true, false, List, [], ◌∷◌, ◌++◌, length, None}
use Rattle.rtl_bits.specs.declared.Bit.{Bit}
use Rattle.rtl_flat.specs.Flats.{Flat}
use Rattle.rtl_flat.specs.declared.expr.SigId.{SigId}
use Rattle.event_model.specs.Queue.{is_input}
use Rattle.event_model.specs.Writes.{Values}
use Rattle.netlist_eval.specs.net_list.Faults.{AreAlone, AreFormed, IsContended, IsShapeless}
use Rattle.netlist_eval.specs.net_order.Order.{IsCyclic}
use Rattle.netlist_eval.specs.net_start.Stored.{IsStored}
use Rattle.netlist_eval.specs.Steps.{HasNoCycle}
use Rattle.vcd_signals.specs.vcd_read.Reading.{Dump}
use Rattle.vcd_signals.specs.Signals.{Sight, is_recorded, sights}
use Rattle.vcd_check.specs.declared.verdict.CompareFault.{CompareFault}
use Rattle.vcd_check.specs.declared.verdict.CompareFault.TheVariants.{MissingInput, MissingRegister, NoNetlist, NeverKnown, Unlawful, Memory}
use Rattle.vcd_check.specs.declared.verdict.Verdict.{Verdict}
use Rattle.vcd_check.specs.declared.verdict.Verdict.TheVariants as verdict
use Rattle.vcd_check.specs.Departure.{Agrees, IsDeparture, IsWatched, Reaches, Watched, from_start, steps_to}

-- ---- what has to be there

-- of the signals of which something holds the first isn't recorded
pub record IsMissing (P : ℕ → Type 0) (d : Flat) (scope : List ℕ) (text : Dump) (signal : ℕ) : Type 0 where
  pub is : P signal
  pub missing : is_recorded d scope text signal ≡ false
  pub first : (i : ℕ) → i < signal → P i → is_recorded d scope text i ≡ true

-- all of them are
abbrev pub AreRecorded : (ℕ → Type 0) → Flat → List ℕ → Dump → Type 0
AreRecorded P d scope text = (i : ℕ) → P i → is_recorded d scope text i ≡ true

abbrev pub IsInput : Flat → ℕ → Type 0
IsInput d i = is_input d i ≡ true

-- registers and blocks are inferred, and no block is on or behind a cycle
pub record HasNetlist (d : Flat) : Type 0 where
  pub formed : AreFormed d
  pub alone : AreAlone d
  pub no_cycle : HasNoCycle d

-- a process has no form that synthesis takes, or a signal is on or behind a cycle of blocks
pub data LacksNetlist (d : Flat) : Type 0 where
  Shapeless : (process : ℕ) → IsShapeless d process → LacksNetlist d
  Contended : (process : ℕ) → IsContended d process → LacksNetlist d
  Cyclic : (signal : ℕ) → IsCyclic d signal → LacksNetlist d

-- every top input, register and latch is recorded, and there is a netlist
pub record IsReady (d : Flat) (scope : List ℕ) (text : Dump) (watched : Watched) : Type 0 where
  pub is_watched : IsWatched d watched
  pub inputs : AreRecorded (IsInput d) d scope text
  pub stored : AreRecorded (IsStored d) d scope text
  pub netlist : HasNetlist d

-- ---- verdicts

-- the dump agrees up to the last of its times
pub record IsAgreed (d : Flat) (watched : Watched) (sights : List Sight) (frames : ℕ) : Type 0 where
  pub before : List Sight
  pub last : Sight
  pub numbers : Values
  pub all : from_start watched sights ≡ before ++ last ∷ []
  pub reaches : Reaches d watched before last numbers
  pub agrees : Agrees d last numbers
  pub count : frames ≡ length before + 1

-- it departs at a time, up to which it agrees, by the first signal that hasn't its number
pub record IsDeparted (d : Flat) (watched : Watched) (sights : List Sight) (time signal : ℕ) (recorded synthesised : List Bit) : Type 0 where
  pub before : List Sight
  pub sight : Sight
  pub behind : List Sight
  pub numbers : Values
  pub all : from_start watched sights ≡ before ++ sight ∷ behind
  pub reaches : Reaches d watched before sight numbers
  pub departure : IsDeparture d sight numbers signal recorded
  pub time_is : time ≡ sight.time
  pub synthesised_is : synthesised ≡ numbers signal

-- it agrees up to a time, and the changes of the inputs up to the next can't be read
pub record IsUnlawful (d : Flat) (watched : Watched) (sights : List Sight) (time : ℕ) : Type 0 where
  pub before : List Sight
  pub sight : Sight
  pub next : Sight
  pub behind : List Sight
  pub numbers : Values
  pub all : from_start watched sights ≡ before ++ sight ∷ next ∷ behind
  pub reaches : Reaches d watched before sight numbers
  pub agrees : Agrees d sight numbers
  pub none : steps_to watched numbers next ≡ None
  pub time_is : time ≡ next.time

-- what holds of the times of the dump
abbrev pub IsTold : Flat → Watched → List Sight → Verdict → Type 0
IsTold d watched sights (verdict.Agrees frames) = IsAgreed d watched sights frames
IsTold d watched sights (verdict.Departs time signal recorded synthesised) =
    IsDeparted d watched sights time signal.0 recorded synthesised

abbrev pub IsVerdict : Flat → List ℕ → Dump → Verdict → Type 0
IsVerdict d scope text answer =
    (watched : Watched) × IsReady d scope text watched × IsTold d watched (sights d scope text) answer

-- ---- refusals

-- why nothing is told: the least input that isn't recorded comes first, then the least register or latch; then that
-- there is no netlist; that there is no start; and a time up to which the changes of the inputs can't be read
abbrev pub IsCompareFault : Flat → List ℕ → Dump → CompareFault → Type 0
IsCompareFault d scope text (MissingInput signal) = IsMissing (IsInput d) d scope text signal.0
IsCompareFault d scope text (MissingRegister signal) =
    AreRecorded (IsInput d) d scope text × IsMissing (IsStored d) d scope text signal.0
IsCompareFault d scope text NoNetlist =
    AreRecorded (IsInput d) d scope text × AreRecorded (IsStored d) d scope text × LacksNetlist d
IsCompareFault d scope text NeverKnown =
    (watched : Watched) × IsReady d scope text watched × (from_start watched (sights d scope text) ≡ [])
IsCompareFault d scope text (Unlawful time) =
    (watched : Watched) × IsReady d scope text watched × IsUnlawful d watched (sights d scope text) time
IsCompareFault d scope text Memory = Unit {0}
