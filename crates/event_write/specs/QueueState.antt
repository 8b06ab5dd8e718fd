-- It serves inner contracts and proofs; no answer of the program is stated by it.
-- The state of the queue, from what the simulator keeps.
use Rattle.std.specs.Prelude.{◌≡◌, ◌<◌, ◌≤◌, ℕ, ◌+◌, Bool, if◌then◌else◌, List, [], ◌∷◌, drop, map, length, Option, None, Some, Vec}
use Rattle.std.specs.List.{All, slice_get}
use Rattle.std.specs.declared.alloc.Global.{Global}
use Rattle.rtl_bits.specs.declared.Bit.{Bit}
use Rattle.rtl_flat.specs.declared.act.ProcId.{ProcId}
use Rattle.rtl_flat.specs.declared.signal.Signal.{Signal}
use Rattle.rtl_flat.specs.Process.{Doing, Assign}
use Rattle.rtl_flat.specs.Sizes.{width_of}
use Rattle.rtl_flat.specs.Signs.{width_in}
use Rattle.rtl_flat.specs.Value.{store}
use Rattle.rank_set.specs.Ranks.{flag}
use Rattle.event_model.specs.Writes.{Values, Span, no_drive}
use Rattle.event_model.specs.Queue.{State, doing_at, hears, drive_with, resolved}
use Rattle.rtl_flat.specs.Flats.{Flat, flat, widths}
use Rattle.event_tally.specs.declared.tally.Tally.{Tally}
use Rattle.event_tally.specs.Given.{AreCounted}
use Rattle.event_write.specs.declared.fanout.Fanout.{Fanout}
use Rattle.event_write.specs.declared.queue_state.QueueState.{QueueState}
use Rattle.event_write.specs.declared.listener.Listener.{Listener}
use Rattle.event_write.specs.Entries.{Entry, entry, updates, IsClosed}
use Rattle.event_write.specs.Listeners.{AreBelow, heard_by}
use Rattle.event_write.specs.Stored.{AreStored}

-- the value of a flagged number
abbrev pub flagged_value : List Bool → List (List Bit) → ℕ → Option (List Bit)
flagged_value flags values k = if flag flags k then Some (store values k) else None

-- what a continuous assignment drives
abbrev pub driver_of : Option (Option (List Bit)) → List Bit
driver_of None = []
driver_of (Some None) = []
driver_of (Some (Some bits)) = bits

-- the state that queue are
abbrev pub state : QueueState → State
state m =
    record {
      value = store m.values.items;
      woken = flag m.woken.flags;
      driver = λ p. driver_of (slice_get m.drivers.items p);
      pending = flagged_value m.pending m.pending_values.items;
      offered = flagged_value m.offered m.offered_values.items;
      activated = updates (drop m.next (map entry m.active.items));
      delayed = updates (map entry m.waiting.items);
    }

-- a row of a table; past its end it is empty
abbrev pub items_of : {A : Type 0} → Option (Vec A Global) → List A
items_of None = []
items_of (Some v) = v.items

abbrev pub row : {A : Type 0} → List (Vec A Global) → ℕ → List A
row rows i = items_of (slice_get rows i)

-- ---- what holds of the tables of a design

-- what the continuous assignments with some numbers give to a net together
abbrev pub driven_with : (ℕ → ℕ) → Option Doing → List Bit → ℕ → List Bit → List Bit
driven_with ws None bits net others = others
driven_with ws (Some does) bits net others = drive_with ws does bits net others

abbrev pub resolved_by : Flat → List ProcId → (ℕ → List Bit) → Values
resolved_by d [] driver net = no_drive (widths d) net
resolved_by d (p ∷ ps) driver net =
    driven_with (widths d) (doing_at d p.0) (driver p.0) net (resolved_by d ps driver net)

-- whether tables of listeners and drivers are those of a design
pub record AreTables (d : Flat) (listeners : List (Vec Listener Global)) (drivers : List (Vec ProcId Global)) : Type 0 where
  pub listened : length listeners ≡ length d.signals
  pub driven : length drivers ≡ length d.signals
  pub inside : (i : ℕ) → All (λ listener. AreBelow (length d.tasks) listener) (row listeners i)
  pub hear : (i p : ℕ) (old new : List Bit) → heard_by (row listeners i) p old new ≡ hears (widths d) i old new (doing_at d p)
  pub drivers_inside : (i : ℕ) → All (λ p. p.0 < length d.tasks) (row drivers i)
  pub drive : (driver : ℕ → List Bit) (i : ℕ) → resolved_by d (row drivers i) driver i ≡ resolved d driver i

abbrev pub design_of : Fanout → Flat
design_of f = flat f.design.now

abbrev pub IsFanout : Fanout → Type 0
IsFanout f = AreTables (design_of f) f.listeners.items f.drivers.items

-- ---- what holds of the queue

-- whether a write lies inside its signal
abbrev pub IsInside : List Signal → ℕ → Option Span → List Bit → Type 0
IsInside signals i None bits = i < length signals
IsInside signals i (Some span) bits =
    (i < length signals) × (span.at + length bits ≤ width_in signals i)

abbrev pub AreInside : List Signal → List Entry → Type 0
AreInside signals entries = All (λ e. IsInside signals e.signal e.span e.bits) entries

-- whether there is a value for each driver, as wide as its expression
abbrev pub HasWidth : (ℕ → ℕ) → Option Doing → ℕ → Type 0
HasWidth ws (Some (Assign target e)) width = width ≡ width_of ws e
HasWidth ws _ width = Unit {0}

-- whether tallies, where a net has any, count the drivers of its bits
abbrev pub AreTallied : Flat → (ℕ → List Bit) → List (Vec Tally Global) → Type 0
AreTallied d driver rows = (net : ℕ) → AreCounted d driver net (row rows net)

pub record IsQueueState (d : Flat) (m : QueueState) : Type 0 where
  pub values : AreStored d.signals m.values.items
  pub woken : length m.woken.flags ≡ length d.tasks
  pub drivers : length m.drivers.items ≡ length d.tasks
  pub driver_widths : (p : ℕ) → HasWidth (widths d) (doing_at d p) (length (driver_of (slice_get m.drivers.items p)))
  pub tallies : length m.tallies.items ≡ length d.signals
  pub tallied : AreTallied d (λ p. driver_of (slice_get m.drivers.items p)) m.tallies.items
  pub pending : length m.pending ≡ length d.tasks
  pub pending_values : length m.pending_values.items ≡ length d.tasks
  pub pending_widths : (p : ℕ) → HasWidth (widths d) (doing_at d p) (length (store m.pending_values.items p))
  pub offered : length m.offered ≡ length d.signals
  pub offered_values : AreStored d.signals m.offered_values.items
  pub next : m.next ≤ length m.active.items
  pub active : IsClosed (drop m.next (map entry m.active.items))
  pub active_inside : AreInside d.signals (map entry m.active.items)
  pub waiting : IsClosed (map entry m.waiting.items)
  pub waiting_inside : AreInside d.signals (map entry m.waiting.items)

-- whether all but values and woken processes stays
pub record AreSame (m n : QueueState) : Type 0 where
  pub levels : n.woken.levels ≡ m.woken.levels
  pub drivers : n.drivers ≡ m.drivers
  pub tallies : n.tallies ≡ m.tallies
  pub pending : n.pending ≡ m.pending
  pub pending_values : n.pending_values ≡ m.pending_values
  pub offered : n.offered ≡ m.offered
  pub offered_values : n.offered_values ≡ m.offered_values
  pub active : n.active ≡ m.active
  pub next : n.next ≡ m.next
  pub waiting : n.waiting ≡ m.waiting
  pub scratch : n.scratch ≡ m.scratch
