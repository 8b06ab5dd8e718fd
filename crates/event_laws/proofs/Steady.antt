-- Every run of a lawful design keeps a state steady, and runs begin in steady states.
use Rattle.std.proofs.Common.{◌≡◌, ◌∙◌, ◌≤◌, ℕ, zero, suc, false, List, [], ◌∷◌, length, Some, refl, sym, ap, subst}
use Rattle.std.specs.List.{slice_get, All}
use Rattle.std.proofs.lemmas.Bool.{true≢false}
use Rattle.std.proofs.lemmas.List.{length-replicate}
use Rattle.std.proofs.lemmas.List.Elements.{All-head, All-nil, All-tail}
use Rattle.rtl_bits.specs.declared.Bit.{Bit}
use Rattle.rtl_flat.specs.declared.signal.Signal.{Signal}
use Rattle.rtl_flat.specs.Expression.{Tree}
use Rattle.rtl_flat.specs.Process.{Assign, Doing, Piece, Task}
use Rattle.rtl_flat.specs.Sizes.{IsSized}
use Rattle.rtl_flat.specs.Value.{value}
use Rattle.rtl_flat.specs.Signs.{width_in}
use Rattle.rtl_flat.specs.WellFormed.{IsProcess}
use Rattle.event_model.specs.Writes.{Values, Write, put, written}
use Rattle.event_model.specs.Queue.{State, Event, Input, Evaluate, Update, Run, Delayed, Activate}
use Rattle.rtl_flat.specs.Flats.{Flat, widths}
use Rattle.event_model.specs.Queue.{after, doing_at, doing_of, drive_now, first_bits, hears, is_assignment, power_up, run, settled_at, CanRun, IsThere}
use Rattle.event_laws.specs.Steady.{AreLawful, HaveWidths, IsSteady, IsSteadyIn, IsWithin, SignalsHaveWidths}
use Rattle.event_laws.proofs.Lengths.{have_written, signals_written}
use Rattle.event_laws.proofs.Unheard.{signals_unheard, unheard}
use Rattle.event_laws.proofs.Kept.{steady_activated, steady_delayed, steady_evaluate, steady_input, steady_offered, steady_ran, steady_update}

module _ (d : Flat) (Wide : Values → Type 0) (keeps : (v : Values) (w : Write) → Wide v → IsWithin (widths d) w → Wide (written v w)) (deaf_to : (v : Values) (w : Write) (target : List Piece) (e : Tree) → Wide v → IsWithin (widths d) w → IsSized (length d.signals) (widths d) e → hears (widths d) w.signal (v w.signal) (written v w w.signal) (Some (Assign target e)) ≡ false → value (written v w) e ≡ value v e) where
  after_event : AreLawful d → (s : State) (event : Event) → IsThere d s event → IsSteadyIn d Wide s → IsSteadyIn d Wide (after d s event)
  after_event lawful s (Input i) there h =
      steady_input d Wide keeps deaf_to lawful s i there.0 (s.offered i) refl h
  after_event lawful s (Evaluate p) there h =
      steady_evaluate d Wide keeps deaf_to s p (doing_at d p) refl h
  after_event lawful s (Update p) there h =
      steady_update d Wide keeps deaf_to lawful s p (doing_at d p) refl h
  after_event lawful s (Run p) there h =
      steady_ran d Wide keeps deaf_to lawful s p (doing_at d p) refl h
  after_event lawful s Delayed there h =
      steady_delayed d Wide keeps deaf_to lawful s s.activated refl h
  after_event lawful s Activate there h = steady_activated d Wide keeps deaf_to s h

-- each event keeps a state steady
pub steady_after : (d : Flat) → AreLawful d → (s : State) (event : Event) → IsThere d s event → IsSteady d s → IsSteady d (after d s event)
steady_after d = after_event d (HaveWidths d) (have_written d) (unheard d)

-- the same where values have the widths of signals alone
pub signals_steady_after :
    (d : Flat) → AreLawful d → (s : State) (event : Event) → IsThere d s event → IsSteadyIn d (SignalsHaveWidths d) s →
    IsSteadyIn d (SignalsHaveWidths d) (after d s event)
signals_steady_after d = after_event d (SignalsHaveWidths d) (signals_written d) (signals_unheard d)

-- so does each run
pub steady_run : (d : Flat) → AreLawful d → (s : State) (events : List Event) → CanRun d s events → IsSteady d s → IsSteady d (run d s events)
steady_run d lawful s [] can h = h
steady_run d lawful s (event ∷ events) can h =
    steady_run d lawful (after d s event) events can.1 (steady_after d lawful s event can.0 h)

-- ---- where runs begin

first_length : (signals : List Signal) (i : ℕ) → length (first_bits (slice_get signals i)) ≡ width_in signals i
first_length [] i = refl
first_length (s ∷ signals) zero = length-replicate s.width _
first_length (s ∷ signals) (suc i) = first_length signals i

pub steady_power_up : (d : Flat) → IsSteady d (power_up d)
steady_power_up d =
    record {
      within = record {
        offered = λ i bits input e. absurd (cc);
        activated = All-nil (All (IsWithin (widths d)));
        delayed = All-nil (All (IsWithin (widths d)));
      };
      widths = first_length d.signals;
      up_to_date = λ p target e here still. absurd (true≢false (ap is_assignment (sym here) ∙ still));
    }

-- power-up, where values have the widths of signals alone
pub signals_power_up : (d : Flat) → IsSteadyIn d (SignalsHaveWidths d) (power_up d)
signals_power_up d =
    let h = steady_power_up d in
    record { within = h.within; widths = λ i there. h.widths i; up_to_date = h.up_to_date }

pub steady_settled : (d : Flat) (v : Values) → HaveWidths d v → IsSteady d (settled_at d v)
steady_settled d v have =
    record {
      within = record {
        offered = λ i bits input e. absurd (cc);
        activated = All-nil (All (IsWithin (widths d)));
        delayed = All-nil (All (IsWithin (widths d)));
      };
      widths = have;
      up_to_date = λ p target e here still. ap (drive_now v) here;
    }

-- a value that isn't too long is offered
pub steady_offer :
    (d : Flat) (s : State) (i : ℕ) (bits : List Bit) → length bits ≤ widths d i → IsSteady d s →
    IsSteady d (record s { offered = put s.offered i (Some bits) })
steady_offer d = steady_offered d (HaveWidths d) (have_written d) (unheard d)

-- ---- lawful designs

lawful_at :
    (signals : List Signal) (tasks : List Task) → All (λ one. IsProcess signals one.does) tasks → (p : ℕ) (does : Doing) →
    doing_of (slice_get tasks p) ≡ Some does → IsProcess signals does
lawful_at signals [] h p does is = absurd (cc)
lawful_at signals (one ∷ others) h zero does is =
    let same : one.does ≡ does = cc in
    subst (IsProcess signals) same (All-head (λ (task : Task). IsProcess signals task.does) one others h)
lawful_at signals (one ∷ others) h (suc p) does is =
    lawful_at signals others (All-tail (λ (task : Task). IsProcess signals task.does) one others h) p does is

pub lawful_processes : (d : Flat) → All (λ one. IsProcess d.signals one.does) d.tasks → AreLawful d
lawful_processes d h = lawful_at d.signals d.tasks h
