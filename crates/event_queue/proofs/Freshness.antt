-- QueueState in which nothing is to be done.
use Rattle.std.proofs.Common.{◌≡◌, ◌≤◌, ◌∙◌, ℕ, false, List, [], length, map, drop, replicate, Option, sym, ap, subst, arith}
use Rattle.std.specs.Prelude.{vec_capacity}
use Rattle.std.proofs.lemmas.List.{length-map, length-replicate}
use Rattle.std.proofs.lemmas.List.Elements.{All-nil}
use Rattle.rtl_bits.specs.declared.Bit.{Bit}
use Rattle.rtl_flat.specs.declared.act.Process.{Process}
use Rattle.rtl_flat.specs.declared.design.Design.{Design}
use Rattle.rtl_flat.specs.declared.signal.Signal.{Signal}
use Rattle.rtl_flat.specs.Process.{doing, task}
use Rattle.rtl_flat.specs.Signs.{width_in}
use Rattle.rtl_flat.specs.Value.{store}
use Rattle.rank_set.specs.Ranks.{flag}
use Rattle.agenda.specs.Agendas.{Numbered}
use Rattle.event_model.specs.Writes.{Values}
use Rattle.event_model.specs.Queue.{State, doing_at, is_assignment, power_up, settled_at}
use Rattle.rtl_flat.specs.Flats.{Flat, flat}
use Rattle.event_tables.specs.event_write.declared.entries.Entry.{Entry as Code}
use Rattle.event_tables.specs.event_write.declared.queue_state.QueueState.{QueueState}
use Rattle.event_tables.specs.event_write.Entries.{Entry, IsClosed, entry}
use Rattle.event_tables.specs.event_write.QueueState.{AreInside, HasWidth, IsInside, IsQueueState}
use Rattle.event_tables.specs.event_write.Stored.{AreStored}
use Rattle.event_queue.specs.First.{AreDriven, IsFirst, IsFresh, blank, driver_in, first_driver, first_value, now_driver, quiet}
use Rattle.event_queue.specs.Tallying.{AreTallies}
use Rattle.event_queue.proofs.Starting.{blank_widths, first_are, first_driven, first_driver_widths, first_stored, now_driven, now_driver_widths, powered, quiet_state, settled_is}

closed_none : (entries : List Code) → entries ≡ [] → IsClosed (map entry entries)
closed_none entries none = subst (λ (es : List Code). IsClosed (map entry es)) (sym none) tt

inside_none : (signals : List Signal) (entries : List Code) → entries ≡ [] → AreInside signals (map entry entries)
inside_none signals entries none =
    subst (λ (es : List Code). AreInside signals (map entry es)) (sym none) (All-nil (λ (e : Entry). IsInside signals e.signal e.span e.bits))

-- as many processes and signals
tasks_are : (design : Design) (n : ℕ) → n ≡ length design.processes.items → n ≡ length (flat design).tasks
tasks_are design n is =
    let count = length-map design.processes.items task in omega (arith, is, count)

pub fresh_is : (design : Design) (m : QueueState) (given : List (Option ℕ)) (most processes signals : ℕ) → length given ≡ length design.processes.items → processes ≡ length design.processes.items → signals ≡ length design.signals.items
    → AreStored design.signals.items m.values.items → AreDriven (flat design) m.drivers.items → AreTallies (flat design) (driver_in m.drivers.items) m.tallies.items → m.woken ≡ record { flags = replicate (length given) false; levels = given } → m.pending ≡ replicate processes false
    → m.pending_values.items ≡ map (λ process. blank (width_in design.signals.items) (doing process.does)) design.processes.items → m.offered ≡ replicate signals false → m.offered_values.items ≡ map first_value design.signals.items
    → m.next ≡ 0 → m.active.items ≡ [] → m.waiting.items ≡ [] → most ≤ vec_capacity m.active → most ≤ vec_capacity m.waiting → 128 ≤ vec_capacity m.scratch → IsFresh (flat design) (store m.values.items) (driver_in m.drivers.items) given most m
fresh_is design m given most processes signals size counted listed stored driven tallies woken pending pending_values offered offered_values next active waiting active_room waiting_room scratch =
    let d = flat design in
    let ws = width_in design.signals.items in
    let flags : m.woken.flags ≡ replicate (length given) false = ap (λ (a : Numbered). a.flags) woken in
    record {
      queue = record {
        values = stored;
        woken = ap length flags ∙ length-replicate (length given) false ∙ tasks_are design (length given) size;
        drivers = driven.count;
        driver_widths = driven.each;
        tallies = tallies.count;
        tallied = tallies.tallied;
        pending = ap length pending ∙ length-replicate processes false ∙ tasks_are design processes counted;
        pending_values = ap length pending_values ∙ length-map design.processes.items (λ (process : Process). blank ws (doing process.does)) ∙ sym (length-map design.processes.items task);
        pending_widths = λ p. subst (λ (xs : List (List Bit)). HasWidth ws (doing_at d p) (length (store xs p))) (sym pending_values) (blank_widths ws design.processes.items p);
        offered = ap length offered ∙ length-replicate signals false ∙ listed;
        offered_values = subst (AreStored design.signals.items) (sym offered_values) (first_stored design.signals.items);
        next = omega (arith, next);
        active = subst (λ (j : ℕ). IsClosed (drop j (map entry m.active.items))) (sym next) (closed_none m.active.items active);
        active_inside = inside_none design.signals.items m.active.items active;
        waiting = closed_none m.waiting.items waiting;
        waiting_inside = inside_none design.signals.items m.waiting.items waiting;
      };
      state = quiet_state m (length given) processes signals flags pending offered next active waiting;
      flags = flags ∙ ap (λ n. replicate n false) (tasks_are design (length given) size);
      levels = ap (λ (a : Numbered). a.levels) woken;
      room = record { none = waiting; waiting = waiting_room; active = active_room; scratch = scratch };
    }

-- ---- drivers

pub first_drivers_are : (design : Design) (drivers : List (Option (List Bit))) → drivers ≡ map (λ process. first_driver (width_in design.signals.items) (doing process.does)) design.processes.items → AreDriven (flat design) drivers
first_drivers_are design drivers is =
    let ws = width_in design.signals.items in
    record {
      count = ap length is ∙ length-map design.processes.items (λ (process : Process). first_driver ws (doing process.does)) ∙ sym (length-map design.processes.items task);
      each = λ p. subst (λ (xs : List (Option (List Bit))). HasWidth ws (doing_at (flat design) p) (length (driver_in xs p))) (sym is) (first_driver_widths ws design.processes.items p);
    }

pub now_drivers_are : (design : Design) (v : Values) (drivers : List (Option (List Bit))) → drivers ≡ map (λ process. now_driver v (doing process.does)) design.processes.items → AreDriven (flat design) drivers
now_drivers_are design v drivers is =
    let ws = width_in design.signals.items in
    record {
      count = ap length is ∙ length-map design.processes.items (λ (process : Process). now_driver v (doing process.does)) ∙ sym (length-map design.processes.items task);
      each = λ p. subst (λ (xs : List (Option (List Bit))). HasWidth ws (doing_at (flat design) p) (length (driver_in xs p))) (sym is) (now_driver_widths ws v design.processes.items p);
    }

-- ---- where a simulator begins

with_woken : (d : Flat) (m : QueueState) (w : Numbered) → IsQueueState d m → length w.flags ≡ length m.woken.flags → IsQueueState d (record m { woken = w })
with_woken d m w is size =
    record {
      values = is.values;
      woken = size ∙ is.woken;
      drivers = is.drivers;
      driver_widths = is.driver_widths;
      tallies = is.tallies;
      tallied = is.tallied;
      pending = is.pending;
      pending_values = is.pending_values;
      pending_widths = is.pending_widths;
      offered = is.offered;
      offered_values = is.offered_values;
      next = is.next;
      active = is.active;
      active_inside = is.active_inside;
      waiting = is.waiting;
      waiting_inside = is.waiting_inside;
    }

pub power_up_is : (design : Design) (m : QueueState) (w : Numbered) (values : List (List Bit)) (drivers : List (Option (List Bit))) (given : List (Option ℕ)) (most : ℕ) → values ≡ map first_value design.signals.items → drivers ≡ map (λ process. first_driver (width_in design.signals.items) (doing process.does)) design.processes.items
    → IsFresh (flat design) (store values) (driver_in drivers) given most m → length w.flags ≡ length m.woken.flags → w.levels ≡ m.woken.levels → ((p : ℕ) → flag w.flags p ≡ is_assignment (doing_at (flat design) p)) → IsFirst (flat design) (power_up (flat design)) given most (record m { woken = w })
power_up_is design m w values drivers given most values_are drivers_are fresh size levels flags =
    let d = flat design in
    record {
      queue = with_woken d m w fresh.queue size;
      state = ap (λ (s : State). record s { woken = flag w.flags }) fresh.state
          ∙ powered d (store values) (flag w.flags) (driver_in drivers)
          (λ i. ap (λ (xs : List (List Bit)). store xs i) values_are ∙ first_are design.signals.items i) flags
          (λ p. ap (λ (xs : List (Option (List Bit))). driver_in xs p) drivers_are ∙ first_driven (width_in design.signals.items) design.processes.items p);
      levels = levels ∙ fresh.levels;
      room = record { none = fresh.room.none; waiting = fresh.room.waiting; active = fresh.room.active; scratch = fresh.room.scratch };
    }

pub settled_first : (design : Design) (m : QueueState) (given : List (Option ℕ)) (most : ℕ) (v : Values) (values : List (List Bit)) (drivers : List (Option (List Bit))) → store values ≡ v → drivers ≡ map (λ process. now_driver v (doing process.does)) design.processes.items
    → IsFresh (flat design) (store values) (driver_in drivers) given most m → IsFirst (flat design) (settled_at (flat design) v) given most m
settled_first design m given most v values drivers values_are drivers_are fresh =
    let d = flat design in
    record {
      queue = fresh.queue;
      state = fresh.state
          ∙ ap (λ (x : Values). quiet x (λ p. false) (driver_in drivers)) values_are
          ∙ settled_is d v (driver_in drivers) (λ p. ap (λ (xs : List (Option (List Bit))). driver_in xs p) drivers_are ∙ now_driven v design.processes.items p);
      levels = fresh.levels;
      room = fresh.room;
    }
