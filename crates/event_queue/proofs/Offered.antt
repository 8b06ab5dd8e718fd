-- Values that are offered to inputs.
use Rattle.std.proofs.Common.{◌≡◌, ◌<◌, ◌∙◌, ℕ, true, List, [], length, set, Option, Some, Vec, sym, ap, subst, inl, inr, arith}
use Rattle.std.specs.declared.alloc.Global.{Global}
use Rattle.std.proofs.lemmas.Bool.{cases_eq, false≢true}
use Rattle.std.proofs.lemmas.List.{get_or-set_other, get_or-set_same, length-set}
use Rattle.std.proofs.lemmas.Option.{slice_get_cases}
use mathlib.Core.Path.{fun_ext}
use Rattle.rtl_bits.specs.declared.Bit.{Bit}
use Rattle.rtl_flat.specs.declared.signal.Signal.{Signal}
use Rattle.rtl_flat.specs.Signs.{width_in}
use Rattle.rtl_flat.specs.Value.{store}
use Rattle.event_model.specs.Queue.{is_input, is_input_of}
use Rattle.rtl_flat.specs.Flats.{Flat}
use Rattle.event_model.specs.Writes.{put}
use Rattle.event_tables.specs.event_write.declared.queue_state.QueueState.{QueueState}
use Rattle.event_tables.specs.event_write.QueueState.{IsQueueState, flagged_value, state}
use Rattle.event_tables.specs.event_write.Stored.{AreStored}
use Rattle.event_take.proofs.Taking.{held_more}

pub input_within : (d : Flat) (i : ℕ) → is_input d i ≡ true → i < length d.signals
input_within d i e =
    elim (slice_get_cases d.signals i).1 [
      | inl found ↦ found.1
      | inr past ↦ absurd (false≢true (ap is_input_of (sym past.1) ∙ e))
    ]

pub stored_set : (signals : List Signal) (values : List (List Bit)) (i : ℕ) (bits : List Bit) → i < length values → length bits ≡ width_in signals i → AreStored signals values → AreStored signals (set values i bits)
stored_set signals values i bits within width stored =
    record {
      count = stored.count ∙ sym (length-set values i bits);
      each = each;
    }
  where
    each : (j : ℕ) → width_in signals j ≡ length (store (set values i bits) j)
    each j =
        elim (cases_eq j i) [
          | inl same ↦ ap (width_in signals) same ∙ sym width ∙ ap length (sym (get_or-set_same values i bits [] within)) ∙ ap (λ k. length (store (set values i bits) k)) (sym same)
          | inr apart ↦ stored.each j ∙ ap length (sym (get_or-set_other values i j bits [] apart))
        ]

-- the state with a value that is offered
pub offered_state : (d : Flat) (m : QueueState) (values : Vec (List Bit) Global) (i : ℕ) (bits : List Bit) → IsQueueState d m → i < length d.signals → values.items ≡ set m.offered_values.items i bits → state (record m { offered = set m.offered i true; offered_values = values }) ≡ record (state m) { offered = put (state m).offered i (Some bits) }
offered_state d m values i bits is within are =
    let flagged = is.offered in
    let stored = is.offered_values.count in
    let there : i < length m.offered = omega (arith, within, flagged) in
    let kept : i < length m.offered_values.items = omega (arith, within, stored) in
    ap (λ (q : ℕ → Option (List Bit)). record (state m) { offered = q })
    (ap (flagged_value (set m.offered i true)) are ∙ fun_ext (held_more m.offered m.offered_values.items i bits there kept))

pub offered_queue : (d : Flat) (m : QueueState) (values : Vec (List Bit) Global) (i : ℕ) (bits : List Bit) → IsQueueState d m → i < length d.signals → length bits ≡ width_in d.signals i → values.items ≡ set m.offered_values.items i bits → IsQueueState d (record m { offered = set m.offered i true; offered_values = values })
offered_queue d m values i bits is within width are =
    let stored = is.offered_values.count in
    record {
      values = is.values;
      woken = is.woken;
      drivers = is.drivers;
      driver_widths = is.driver_widths;
      tallies = is.tallies;
      tallied = is.tallied;
      pending = is.pending;
      pending_values = is.pending_values;
      pending_widths = is.pending_widths;
      offered = length-set m.offered i true ∙ is.offered;
      offered_values = subst (AreStored d.signals) (sym are) (stored_set d.signals m.offered_values.items i bits (omega (arith, within, stored)) width is.offered_values);
      next = is.next;
      active = is.active;
      active_inside = is.active_inside;
      waiting = is.waiting;
      waiting_inside = is.waiting_inside;
    }
