-- Events leave what holds of each state.
use Rattle.std.proofs.Common.{◌≡◌, ◌≢◌, ◌∙◌, ℕ, Bool, true, false, List, [], ◌∷◌, length, map, Option, None, Some, refl, sym, ap, inl, inr}
use Rattle.std.specs.Prelude.{◌==◌, if◌then◌else◌}
use Rattle.std.proofs.lemmas.Bool.{cases_eq, ne_eqb, true≢false}
use Rattle.std.proofs.lemmas.List.Elements.{All-head, All-tail}
use Rattle.rtl_bits.specs.declared.Bit.{Bit}
use Rattle.rtl_flat.specs.Process.{Doing, Assign, Comb, Edge', Piece}
use Rattle.rtl_flat.specs.Value.{value}
use Rattle.event_model.specs.Bodies.{Made, Now, Later, body_made}
use Rattle.event_model.specs.Queue.{State, Event, Input, Evaluate, Update, Run, Delayed, Activate, after, after_input, after_evaluate, after_update, after_run, after_delayed, doing_at, drive, is_assignment, is_input, net_writes, perform, offer, perform_all, power_up, resolved, settled_at, wait, write, write_all}
use Rattle.rtl_flat.specs.Flats.{Flat, widths}
use Rattle.event_model.specs.declared.setting.Setting.{Setting}
use Rattle.event_model.specs.Order.{active, ready, ready_where}
use Rattle.event_model.specs.Writes.{Values, Write, put}
use Rattle.event_take.specs.Lawful.{IsLawful}
use Rattle.event_queue.specs.Offers.{AreAllowed, set_of}

-- whether two states agree on what is offered and pending
pub record IsAlike (s t : State) : Type 0 where
  pub offered : t.offered ≡ s.offered
  pub pending : t.pending ≡ s.pending

alike_writes : (d : Flat) (s : State) (ws : List Write) → IsAlike s (write_all d s ws)
alike_writes d s [] = record { offered = refl; pending = refl }
alike_writes d s (w ∷ ws) =
    let rest = alike_writes d (write d s w) ws in
    record { offered = rest.offered; pending = rest.pending }

alike_made : (d : Flat) (s : State) (ms : List Made) → IsAlike s (perform_all d s ms)
alike_made d s [] = record { offered = refl; pending = refl }
alike_made d s (Now w ∷ ms) =
    let rest = alike_made d (write d s w) ms in
    record { offered = rest.offered; pending = rest.pending }
alike_made d s (Later ws ∷ ms) =
    let rest = alike_made d (perform d s (Later ws)) ms in
    record { offered = rest.offered; pending = rest.pending }

still : (d : Flat) (s t : State) → IsAlike s t → IsLawful d s → IsLawful d t
still d s t same h =
    record {
      inputs = λ i none. ap (λ (f : ℕ → Option (List Bit)). f i) same.offered ∙ h.inputs i none;
      assignments = λ p none. ap (λ (f : ℕ → Option (List Bit)). f p) same.pending ∙ h.assignments p none;
    }

-- a value that is taken away
none_left : (f : ℕ → Option (List Bit)) (k j : ℕ) → f j ≡ None → put f k None j ≡ None
none_left f k j e = by_place (j == k)
  where
    by_place : (b : Bool) → (if b then None else f j) ≡ None
    by_place true = refl
    by_place false = e

-- a value that is put elsewhere
put_elsewhere : (f : ℕ → Option (List Bit)) (k j : ℕ) (x : Option (List Bit)) → j ≢ k → put f k x j ≡ f j
put_elsewhere f k j x apart = ap (λ b. if b then x else f j) (ne_eqb j k apart)

input_lawful : (d : Flat) (s : State) (i : ℕ) (bits : Option (List Bit)) → IsLawful d s → IsLawful d (after_input d s i bits)
input_lawful d s i None h = h
input_lawful d s i (Some bits) h =
    record { inputs = λ j none. none_left s.offered i j (h.inputs j none); assignments = h.assignments }

evaluate_lawful : (d : Flat) (s : State) (p : ℕ) (does : Option Doing) → does ≡ doing_at d p → IsLawful d s → IsLawful d (after_evaluate s p does)
evaluate_lawful d s p (Some (Assign target e)) is h =
    record { inputs = h.inputs; assignments = assignments }
  where
    assignments : (q : ℕ) → is_assignment (doing_at d q) ≡ false → put s.pending p (Some (value s.value e)) q ≡ None
    assignments q none =
        elim (cases_eq q p) [
          | inl same ↦ absurd (true≢false (ap is_assignment is ∙ ap (λ k. is_assignment (doing_at d k)) (sym same) ∙ none))
          | inr apart ↦ put_elsewhere s.pending p q (Some (value s.value e)) apart ∙ h.assignments q none
        ]
evaluate_lawful d s p (Some (Comb list body)) is h = h
evaluate_lawful d s p (Some (Edge' events body)) is h = h
evaluate_lawful d s p None is h = h

drive_lawful : (d : Flat) (s : State) (p : ℕ) (target : List Piece) (bits : Option (List Bit)) → IsLawful d s → IsLawful d (drive d s p target bits)
drive_lawful d s p target None h = h
drive_lawful d s p target (Some bits) h =
    let t : State = record s { driver = put s.driver p bits; pending = put s.pending p None } in
    still d t (write_all d t (net_writes (widths d) (resolved d (put s.driver p bits)) target)) (alike_writes d t (net_writes (widths d) (resolved d (put s.driver p bits)) target))
    (record { inputs = h.inputs; assignments = λ q none. none_left s.pending p q (h.assignments q none) })

update_lawful : (d : Flat) (s : State) (p : ℕ) (does : Option Doing) → IsLawful d s → IsLawful d (after_update d s p does)
update_lawful d s p (Some (Assign target e)) h = drive_lawful d s p target (s.pending p) h
update_lawful d s p (Some (Comb list body)) h = h
update_lawful d s p (Some (Edge' events body)) h = h
update_lawful d s p None h = h

wait_lawful : (d : Flat) (s : State) (p : ℕ) (ms : List Made) → IsLawful d s → IsLawful d (wait (perform_all d s ms) p)
wait_lawful d s p ms h =
    let t = still d s (perform_all d s ms) (alike_made d s ms) h in
    record { inputs = t.inputs; assignments = t.assignments }

run_lawful : (d : Flat) (s : State) (p : ℕ) (does : Option Doing) → IsLawful d s → IsLawful d (after_run d s p does)
run_lawful d s p (Some (Assign target e)) h = h
run_lawful d s p (Some (Comb list body)) h = wait_lawful d s p (body_made (widths d) s.value body) h
run_lawful d s p (Some (Edge' events body)) h = wait_lawful d s p (body_made (widths d) s.value body) h
run_lawful d s p None h = h

delayed_lawful : (d : Flat) (s : State) (us : List (List Write)) → IsLawful d s → IsLawful d (after_delayed d s us)
delayed_lawful d s [] h = h
delayed_lawful d s (ws ∷ us) h =
    let t : State = record s { activated = us } in
    still d t (write_all d t ws) (alike_writes d t ws) (record { inputs = h.inputs; assignments = h.assignments })

pub after_lawful : (d : Flat) (s : State) (event : Event) → IsLawful d s → IsLawful d (after d s event)
after_lawful d s (Input i) h = input_lawful d s i (s.offered i) h
after_lawful d s (Evaluate p) h = evaluate_lawful d s p (doing_at d p) refl h
after_lawful d s (Update p) h = update_lawful d s p (doing_at d p) h
after_lawful d s (Run p) h = run_lawful d s p (doing_at d p) h
after_lawful d s Delayed h = delayed_lawful d s s.activated h
after_lawful d s Activate h = record { inputs = h.inputs; assignments = h.assignments }

lawful_where : (d : Flat) (s : State) (events : List Event) → IsLawful d s → IsLawful d (ready_where d s events)
lawful_where d s [] h = record { inputs = h.inputs; assignments = h.assignments }
lawful_where d s (event ∷ events) h = h

pub ready_lawful : (d : Flat) (s : State) (event : Event) → IsLawful d s → IsLawful d (ready d (after d s event))
ready_lawful d s event h =
    lawful_where d (after d s event) (active d (after d s event)) (after_lawful d s event h)

-- the states from which a simulator begins
pub power_up_lawful : (d : Flat) → IsLawful d (power_up d)
power_up_lawful d = record { inputs = λ i none. refl; assignments = λ p none. refl }

pub settled_lawful : (d : Flat) (v : Values) → IsLawful d (settled_at d v)
settled_lawful d v = record { inputs = λ i none. refl; assignments = λ p none. refl }

-- values that are offered to inputs
pub offer_lawful : (d : Flat) (s : State) (settings : List Setting) → AreAllowed d settings → IsLawful d s → IsLawful d (offer s (map set_of settings))
offer_lawful d s [] allowed h = h
offer_lawful d s (setting ∷ settings) allowed h =
    let here = All-head (λ (one : Setting). (is_input d one.signal.0 ≡ true) × (length one.value ≡ widths d one.signal.0)) setting settings allowed in
    offer_lawful d (record s { offered = put s.offered setting.signal.0 (Some setting.value) }) settings
    (All-tail (λ (one : Setting). (is_input d one.signal.0 ≡ true) × (length one.value ≡ widths d one.signal.0)) setting settings allowed)
    (record {
      inputs = λ i none. elsewhere setting.signal.0 setting.value i here.0 none;
      assignments = h.assignments;
    })
  where
    elsewhere : (signal : ℕ) (value : List Bit) (i : ℕ) → is_input d signal ≡ true → is_input d i ≡ false → put s.offered signal (Some value) i ≡ None
    elsewhere signal value i input none =
        elim (cases_eq i signal) [
          | inl same ↦ absurd (true≢false (sym input ∙ ap (is_input d) (sym same) ∙ none))
          | inr apart ↦ put_elsewhere s.offered signal i (Some value) apart ∙ h.inputs i none
        ]
