-- What the clocks and the resets of a design are in which a rule has no finding.
use Rattle.std.specs.Prelude.{◌≡◌, ◌⊎◌, ℕ, List, [], Some, length, ◌≤◌}
use Rattle.std.specs.List.{All, slice_get}
use Rattle.rtl_flat.specs.Process.{Watched, Actions, Task}
use Rattle.net_model.specs.Control.{IsFromTop}
use Rattle.net_model.specs.Cycle.{Chain}
use Rattle.rtl_flat.specs.Flats.{Flat}
use Rattle.check_unknown.specs.check_chains.Chains.{AreAsyncPair, chain_of}
use Rattle.check_clocks.specs.Clocks.{AreDerivedClock}
use Rattle.net_model.specs.Gates.{ComesFrom}
use Rattle.check_laws.specs.Designs.{IsEdge}

-- whether it is decided which signals come from top inputs
abbrev pub AreSourcesDecided : Flat → Type 0
AreSourcesDecided d =
    (s : ℕ) → ((top : ℕ) × ComesFrom d top s) ⊎ ((top : ℕ) → ComesFrom d top s → ⊥)

-- A7: clocks and resets come from top inputs
abbrev pub DerivedClock : Flat → Type 0
DerivedClock d =
    AreSourcesDecided d → AreDerivedClock d [] →
    (p : ℕ) (events : List Watched) (body : Actions) → IsEdge d p events body →
    All (λ item. IsFromTop d item.signal) events

-- A7: no two items of a list come from one top input
abbrev pub DerivedClockOnce : Flat → Type 0
DerivedClockOnce d =
    AreDerivedClock d [] →
    (p : ℕ) (events : List Watched) (body : Actions) → IsEdge d p events body →
    (m n : ℕ) (a b : Watched) → slice_get events m ≡ Some a → slice_get events n ≡ Some b →
    (top : ℕ) → ComesFrom d top a.signal → ComesFrom d top b.signal → m ≡ n

-- R3: a process has one reset at most
abbrev pub AsyncPair : Flat → Type 0
AsyncPair d =
    AreAsyncPair d [] →
    (p : ℕ) (task : Task) → slice_get d.tasks p ≡ Some task →
    (chain : Chain) → chain_of d task.does ≡ Some chain → length chain.resets ≤ 1
