-- What is wrong with clocks (IEEE 1364.1-2002 section 5.2.2).
-- Worked examples: crates/tests_rows/stdin.
use Rattle.std.specs.Prelude.{ℕ, ◌≡◌, ◌≢◌, ◌==◌, Bool, true, false, not, ◌&&◌, ◌⊎◌, if◌then◌else◌, List, [], ◌∷◌, ◌++◌, Option, Some, None}
use Rattle.std.specs.List.{filter_map, flat_map, slice_get}
use Rattle.std.specs.Option.{IsSomeAnd}
use Rattle.text_ground.specs.declared.text.Spot.{Spot}
use Rattle.rtl_flat.specs.declared.signal.Kind.TheVariants.{TopInput}
use Rattle.rtl_flat.specs.declared.signal.Signal.{Signal}
use Rattle.rtl_flat.specs.Expression.{Tree, Sized, Whole}
use Rattle.rtl_flat.specs.Flows.{may_select}
use Rattle.rtl_flat.specs.Process.{Selection, Watched, Action, Doing, Assign, Edge', Task}
use Rattle.rtl_flat.specs.Process as part
use Rattle.rtl_flat.specs.Signs.{Has}
use Rattle.rtl_flat.specs.WellFormed.{has_edge}
use Rattle.net_model.specs.Cycle.{Guard, Chain}
use Rattle.net_model.specs.Gates.{ComesFrom, IsGateOf}
use Rattle.rtl_rule.specs.declared.finding.Finding.{Finding}
use Rattle.rtl_rule.specs.declared.rule.Rule.TheVariants.{DerivedClock, ClockAsData}
use Rattle.rtl_rule.specs.Parts.{At, sites, signal_sites, number, found, found_at, has_some, least_place, nodes, own_reads, place_of, all_of, own_trees, own_labels, read_trees, labels, items_of, spot_if}
use Rattle.rtl_flat.specs.Flats.{Flat, widths}
use Rattle.rtl_rule.specs.Sites.{AreFindings}
use Rattle.check_gates.specs.check_chains.Chains.{chain_of}

-- ---- A7

-- whether two items of a list come from a top input
pub record IsTwice (d : Flat) (events : List Watched) (top : ℕ) : Type 0 where
  pub first : ℕ
  pub second : ℕ
  pub apart : first ≢ second
  pub one : IsSomeAnd (slice_get events first) (λ item. ComesFrom d top item.signal)
  pub other : IsSomeAnd (slice_get events second) (λ item. ComesFrom d top item.signal)

-- a top input is the clock of a process that has the chain
pub record IsClockOf (d : Flat) (top p : ℕ) : Type 0 where
  pub chain : Chain
  pub has : IsSomeAnd (slice_get d.tasks p) (λ task. chain_of d task.does ≡ Some chain)
  pub comes : ComesFrom d top chain.clock.signal

-- it is a reset of such a process
pub record IsResetOf (d : Flat) (top p : ℕ) : Type 0 where
  pub chain : Chain
  pub place : ℕ
  pub has : IsSomeAnd (slice_get d.tasks p) (λ task. chain_of d task.does ≡ Some chain)
  pub comes : IsSomeAnd (slice_get chain.resets place) (λ guard. ComesFrom d top guard.item.signal)

-- it is a clock and a reset
pub record HasTwoRoles (d : Flat) (top : ℕ) : Type 0 where
  pub clocked : ℕ
  pub reset : ℕ
  pub clock_of : IsClockOf d top clocked
  pub reset_of : IsResetOf d top reset

-- an item's signal comes from no top input, or from one that is in the list twice or has two roles
abbrev pub IsDerivedClock : Flat → At Watched → Type 0
IsDerivedClock d site =
    ((top : ℕ) → ComesFrom d top site.it.signal → ⊥)
    ⊎ ((top : ℕ) × ComesFrom d top site.it.signal × (IsTwice d (items_of site.task.does) top ⊎ HasTwoRoles d top))

abbrev pub derived_clock_at : At Watched → Finding
derived_clock_at site = found DerivedClock site (number site.it.signal)

-- the items of a list with an edge
abbrev pub events_of : Doing → List Watched
events_of (Edge' events body) = events
events_of _ = []

abbrev pub AreDerivedClock : Flat → List Finding → Type 0
AreDerivedClock d = AreFindings (IsDerivedClock d) derived_clock_at (sites events_of d)

-- ---- A8

-- where a list has an item without edge that may mean a bit of a signal
abbrev pub level_items : Flat → ℕ → Doing → List Spot
level_items d s does =
    filter_map (λ (item : Watched). spot_if (not (has_edge item.edge) && has_some (widths d) (may_select (widths d) item.signal item.selection) s) item.spot) (items_of does)

-- the expressions of a statement with its labels
abbrev pub statement_trees : Action → List Tree
statement_trees one = own_trees one ++ own_labels one

-- the expressions of a chain outside its tests
abbrev pub chain_trees : Chain → List Tree
chain_trees chain =
    flat_map (λ (guard : Guard). flat_map statement_trees (all_of guard.branch)) chain.resets ++ flat_map statement_trees (all_of chain.part)

abbrev pub is_whole : Selection → Bool
is_whole part.Whole = true
is_whole _ = false

abbrev pub in_instance : ℕ → Option Signal → Bool
in_instance n None = false
in_instance n (Some signal) = signal.instance == n

abbrev pub passes : Flat → ℕ → Doing → Bool
passes d n (Assign (piece ∷ []) (Sized w s at (Whole i))) =
    (w == 1) && (widths d i == 1) && (widths d piece.signal == 1) && is_whole piece.selection && not (in_instance n (slice_get d.signals piece.signal))
passes d n _ = false

abbrev pub but_tests : Option Chain → List Tree → List Tree
but_tests None all = all
but_tests (Some chain) all = chain_trees chain

-- whether an assignment of a plain name of one bit connects an input port of one bit
abbrev pub is_passing : Flat → Task → Bool
is_passing d task = passes d task.instance task.does

-- the expressions of a process outside its list that are neither tests of its chain nor a connection by which a signal
-- goes on
abbrev pub data_trees : Flat → Task → List Tree
data_trees d task =
    if is_passing d task then [] else but_tests (chain_of d task.does) (read_trees task.does ++ labels task.does)

-- where they read a bit of a signal
abbrev pub data_reads : Flat → ℕ → Task → List Spot
data_reads d s task =
    filter_map (λ node. spot_if (has_some (widths d) (own_reads (widths d) node) s) (place_of task.spot node)) (flat_map nodes (data_trees d task))

abbrev pub is_some_place : List Spot → Bool
is_some_place [] = false
is_some_place (one ∷ others) = true

abbrev pub data_places : Flat → At ℕ → List Spot
data_places d site =
    level_items d site.it site.task.does ++ data_reads d site.it site.task

-- a process lists a signal of the control cone without an edge, or reads it as data, and isn't a latch of which it is the
-- gate; the cone is what clocks, resets and gates of the design reach through input ports
pub record IsClockAsData (InCone : ℕ → Type 0) (d : Flat) (site : At ℕ) : Type 0 where
  pub in_cone : InCone site.it
  pub not_gate : IsGateOf d site.process site.it → ⊥
  pub as_data : is_some_place (data_places d site) ≡ true

abbrev pub clock_as_data_at : Flat → At ℕ → Finding
clock_as_data_at d site =
    found_at ClockAsData site (number site.it) (least_place site.task.spot (data_places d site))

abbrev pub AreClockAsData : (ℕ → Type 0) → Flat → List Finding → Type 0
AreClockAsData InCone d =
    AreFindings (IsClockAsData InCone d) (clock_as_data_at d) (signal_sites d)
