-- What is wrong with assignments and drivers (IEEE 1364.1-2002 sections 5.2, 5.3 and 5.5).
-- Worked examples: proofs/Example.antt, crates/tests_rows/stdin.
use Rattle.std.specs.Prelude.{ℕ, suc, ◌≡◌, nat_lt, Bool, true, false, not, ◌&&◌, List, []}
use Rattle.std.specs.List.{enumerate_from, filter_map, flat_map, list_any}
use Rattle.text_ground.specs.declared.text.Spot.{Spot}
use Rattle.rtl_flat.specs.declared.signal.Signal.{Signal}
use Rattle.rtl_flat.specs.Flows.{flow_of, may_select}
use Rattle.rtl_flat.specs.Levels.{Chain, IsArrow}
use Rattle.rtl_flat.specs.Paths.{BitSet, is_sure, may_write_delayed, may_write_blocking}
use Rattle.rtl_flat.specs.PathSets.{IsTemporary}
use Rattle.rtl_flat.specs.Process.{Piece, Action, Set, Doing, Assign, Comb, Edge', Task}
use Rattle.event_model.specs.Queue.{is_input_kind}
use Rattle.net_model.specs.Gates.{Gate, IsAdmitted}
use Rattle.rtl_rule.specs.declared.finding.Finding.{Finding}
use Rattle.rtl_rule.specs.declared.rule.Rule.TheVariants.{BlockingState, NonblockingComb, MixedAssign, SeveralDrivers, Undriven, CombLoop, LatchInferred, Tristate}
use Rattle.rtl_rule.specs.Parts.{is_clocked, At, signal_sites, process_sites, has_some, first_written, written, number, found, found_at, least_place, agree, statements, spot_if, is_z, has_literal, literal_places}
use Rattle.rtl_flat.specs.Flats.{Flat, widths}
use Rattle.rtl_rule.specs.Sites.{AreFindings}

-- ---- what processes are

abbrev pub is_comb : Doing → Bool
is_comb (Comb list body) = true
is_comb _ = false

-- what a body may write by nonblocking assignments, and by blocking ones; a continuous assignment is neither
abbrev pub late : Flat → Doing → BitSet
late d (Assign target value) s k = false
late d does s k = may_write_delayed (flow_of (widths d) does) s k

abbrev pub now : Flat → Doing → BitSet
now d (Assign target value) s k = false
now d does s k = may_write_blocking (flow_of (widths d) does) s k

-- ---- the place of the first target

-- where the assignments of one kind have a target that may be a bit of a signal
abbrev pub own_targets : (ℕ → ℕ) → Bool → ℕ → Action → List Spot
own_targets ws delayed s (Set target value is_delayed spot) =
    filter_map (λ (piece : Piece). spot_if (agree delayed is_delayed && has_some ws (may_select ws piece.signal piece.selection) s) piece.spot) target
own_targets ws delayed s _ = []

abbrev pub first_target : Flat → Bool → At ℕ → Spot
first_target d delayed site =
    least_place site.task.spot (flat_map (own_targets (widths d) delayed site.it) (statements site.task.does))

-- ---- A1

-- a clocked body writes a variable by a blocking assignment, and it is no temporary
pub record IsBlockingState (d : Flat) (site : At ℕ) : Type 0 where
  pub clocked : is_clocked site.task.does ≡ true
  pub writes : has_some (widths d) (now d site.task.does) site.it ≡ true
  pub kept : IsTemporary d.signals d.tasks site.it → ⊥

abbrev pub blocking_state_at : Flat → At ℕ → Finding
blocking_state_at d site = found_at BlockingState site (number site.it) (first_target d false site)

abbrev pub AreBlockingState : Flat → List Finding → Type 0
AreBlockingState d = AreFindings (IsBlockingState d) (blocking_state_at d) (signal_sites d)

-- ---- A2

-- a body with a level list writes a variable by a nonblocking assignment
abbrev pub IsNonblockingComb : Flat → At ℕ → Type 0
IsNonblockingComb d site =
    is_comb site.task.does && has_some (widths d) (late d site.task.does) site.it ≡ true

abbrev pub nonblocking_comb_at : Flat → At ℕ → Finding
nonblocking_comb_at d site =
    found_at NonblockingComb site (number site.it) (first_target d true site)

abbrev pub AreNonblockingComb : Flat → List Finding → Type 0
AreNonblockingComb d =
    AreFindings (IsNonblockingComb d) (nonblocking_comb_at d) (signal_sites d)

-- ---- A3

-- a process writes a variable in both ways
abbrev pub IsMixedAssign : Flat → At ℕ → Type 0
IsMixedAssign d site =
    has_some (widths d) (now d site.task.does) site.it && has_some (widths d) (late d site.task.does) site.it ≡ true

abbrev pub mixed_assign_at : Flat → At ℕ → Finding
mixed_assign_at d site = found_at MixedAssign site (number site.it) (first_target d false site)

abbrev pub AreMixedAssign : Flat → List Finding → Type 0
AreMixedAssign d = AreFindings (IsMixedAssign d) (mixed_assign_at d) (signal_sites d)

-- ---- A4

-- whether a process of a lower number may write a bit
abbrev pub lower_writes : Flat → ℕ → BitSet
lower_writes d p s k =
    list_any (λ (one : ℕ × Task). nat_lt one.0 p && written d one.1.does s k) (enumerate_from 0 d.tasks)

-- a process may write a bit that a lower one may write, too
abbrev pub IsSeveralDrivers : Flat → At ℕ → Type 0
IsSeveralDrivers d site =
    has_some (widths d) (λ s k. written d site.task.does s k && lower_writes d site.process s k) site.it ≡ true

abbrev pub several_drivers_at : At ℕ → Finding
several_drivers_at site = found SeveralDrivers site (number site.it)

abbrev pub AreSeveralDrivers : Flat → List Finding → Type 0
AreSeveralDrivers d = AreFindings (IsSeveralDrivers d) several_drivers_at (signal_sites d)

-- ---- A5

-- whether some process may write a bit
abbrev pub is_written : Flat → BitSet
is_written d s k = list_any (λ (one : Task). written d one.does s k) d.tasks

-- a signal that isn't a top input has a bit that no process may write
abbrev pub IsUndriven : Flat → (ℕ × Signal) → Type 0
IsUndriven d (s, signal) =
    not (is_input_kind signal.kind) && has_some (widths d) (λ i k. not (is_written d i k)) s ≡ true

abbrev pub undriven_at : (ℕ × Signal) → Finding
undriven_at (s, signal) =
    record { rule = Undriven; signal = number s; instance = signal.instance; spot = signal.spot }

abbrev pub AreUndriven : Flat → List Finding → Type 0
AreUndriven d = AreFindings (IsUndriven d) undriven_at (enumerate_from 0 d.signals)

-- ---- A6

-- a process is on a cycle of the level graph
abbrev pub IsCombLoop : Flat → At Doing → Type 0
IsCombLoop d site = (round : ℕ) × Chain (IsArrow d.signals d.tasks) (suc round) site.process site.process

abbrev pub comb_loop_at : Flat → At Doing → Finding
comb_loop_at d site = found CombLoop site (first_written d site)

abbrev pub AreCombLoop : Flat → List Finding → Type 0
AreCombLoop d = AreFindings (IsCombLoop d) (comb_loop_at d) (process_sites d)

-- ---- L1

-- a body with a level list, no latch with a gate from outside, may write a bit that some path leaves, and its variable is no
-- temporary
pub record IsLatchInferred (d : Flat) (site : At ℕ) : Type 0 where
  pub level : is_comb site.task.does ≡ true
  pub not_admitted : (gate : Gate) → IsAdmitted d site.process gate → ⊥
  pub leaves : has_some (widths d) (λ s k. written d site.task.does s k && not (is_sure (flow_of (widths d) site.task.does) s k)) site.it ≡ true
  pub kept : IsTemporary d.signals d.tasks site.it → ⊥

abbrev pub latch_inferred_at : At ℕ → Finding
latch_inferred_at site = found LatchInferred site (number site.it)

abbrev pub AreLatchInferred : Flat → List Finding → Type 0
AreLatchInferred d = AreFindings (IsLatchInferred d) latch_inferred_at (signal_sites d)

-- ---- Z1

abbrev pub IsTristate : At Doing → Type 0
IsTristate site = has_literal is_z site.it ≡ true

abbrev pub tristate_at : Flat → At Doing → Finding
tristate_at d site =
    found_at Tristate site (first_written d site) (least_place site.task.spot (literal_places is_z site))

abbrev pub AreTristate : Flat → List Finding → Type 0
AreTristate d = AreFindings IsTristate (tristate_at d) (process_sites d)
