-- It serves inner contracts and proofs; no answer of the program is stated by it.
-- The roles of top inputs.
use Rattle.std.specs.Prelude.{Bool, List, None, Option, Some, Vec, [], count_by, false, if◌then◌else◌, length, nat_le, slice_index_or, true, ℕ, ◌&&◌, ◌<◌, ◌==◌, ◌||◌, ◌↔◌, ◌∷◌, ◌≡◌, ◌⊎◌}
use Rattle.std.specs.List.{flat_map, list_any}
use Rattle.std.specs.declared.alloc.Global.{Global}
use Rattle.rtl_flat.specs.Process.{Watched, Task}
use Rattle.net_model.specs.Cycle.{Chain, Guard}
use Rattle.rtl_rule.specs.declared.finding.Finding.{Finding}
use Rattle.rtl_rule.specs.declared.rule.Rule.TheVariants.{DerivedClock}
use Rattle.rtl_rule.specs.Parts.{number}
use Rattle.rtl_flat.specs.Flats.{Flat}
use Rattle.check_gates.specs.check_chains.rtl_scan.Arrows.{Among}
use Rattle.check_gates.specs.check_chains.rtl_scan.Graph.{row}
use Rattle.check_clocks.specs.declared.roles.Roles.{Roles}
use Rattle.check_clocks.specs.Clocks.{IsClockOf, IsResetOf}
use Rattle.check_gates.specs.Tops.{AreMarkedAlso}

-- the clocks and resets of the processes below a number
pub record AreRoles (d : Flat) (n : ℕ) (clocks resets : List Bool) : Type 0 where
  pub size : length clocks ≡ length d.signals
  pub size_of_resets : length resets ≡ length d.signals
  pub clock : (top : ℕ) → slice_index_or clocks top false ≡ true ↔ ((p : ℕ) × (p < n) × IsClockOf d top p)
  pub reset : (top : ℕ) → slice_index_or resets top false ≡ true ↔ ((p : ℕ) × (p < n) × IsResetOf d top p)

-- the clock and the resets of a chain are noted, if there is one
abbrev pub NotesChain : List (Vec ℕ Global) → Option Chain → Roles → Roles → Type 0
NotesChain tops None old new =
    (new.clocks.items ≡ old.clocks.items) × (new.resets.items ≡ old.resets.items)
NotesChain tops (Some chain) old new =
    AreMarkedAlso (row tops chain.clock.signal) old.clocks.items new.clocks.items × AreMarkedAlso (flat_map (λ (guard : Guard). row tops guard.item.signal) chain.resets) old.resets.items new.resets.items

-- ---- items

-- whether a signal comes from a top input
abbrev pub has_top : List (Vec ℕ Global) → ℕ → ℕ → Bool
has_top tops top signal = list_any (λ one. one == top) (row tops signal)

-- whether two items do
abbrev pub is_twice : List (Vec ℕ Global) → List Watched → ℕ → Bool
is_twice tops events top =
    nat_le 2 (count_by (λ item. has_top tops top item.signal) events)

-- whether a top input is a clock and a reset
abbrev pub has_both : List Bool → List Bool → ℕ → Bool
has_both clocks resets top =
    slice_index_or clocks top false && slice_index_or resets top false

abbrev pub is_none : List ℕ → Bool
is_none [] = true
is_none (top ∷ others) = false

-- whether one of some top inputs is there twice or has two roles
abbrev pub have_roles : List (Vec ℕ Global) → List Bool → List Bool → List Watched → List ℕ → Bool
have_roles tops clocks resets events own =
    list_any (λ top. is_twice tops events top || has_both clocks resets top) own

abbrev pub is_derived : List (Vec ℕ Global) → List Bool → List Bool → List Watched → ℕ → Bool
is_derived tops clocks resets events signal =
    is_none (row tops signal) || have_roles tops clocks resets events (row tops signal)

-- the finding at an item of a process
abbrev pub derived_in : List (Vec ℕ Global) → List Bool → List Bool → List Watched → Task → Watched → Option Finding
derived_in tops clocks resets events task item =
    if is_derived tops clocks resets events item.signal then Some (record { rule = DerivedClock; signal = number item.signal; instance = task.instance; spot = task.spot }) else None
