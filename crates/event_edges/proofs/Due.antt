-- What is due to a register changes only where its body runs; in quiet runs it stays.
use Rattle.std.proofs.Common.{◌≡◌, ◌∙◌, ◌==◌, ℕ, true, false, List, [], ◌∷◌, Option, Some, None, All, refl, sym, ap, subst, inl, inr}
use Rattle.std.proofs.lemmas.Bool.{cases_eq, eq-eqb, eqb-true, false≢true}
use Rattle.rtl_flat.specs.Flows.{body_flow}
use Rattle.rtl_flat.specs.Paths.{MayWrite}
use Rattle.rtl_flat.specs.Process.{Watched, Actions, Doing, Assign, Comb, Edge'}
use Rattle.event_model.specs.Bodies.{body_made}
use Rattle.event_model.specs.Queue.{State, Event, Input, Evaluate, Update, Run, Delayed, Activate, CanRun, IsThere, after, doing_at, is_assignment, run}
use Rattle.rtl_flat.specs.Flats.{Flat, widths}
use Rattle.event_model.specs.Writes.{Write, all_written}
use Rattle.event_runs.specs.event_laws.Steady.{AreLawful, IsWithin}
use Rattle.net_model.specs.Numbers.{bit}
use Rattle.event_runs.proofs.event_laws_proofs.Laws.{may_late, writes_variables}
use Rattle.event_runs.specs.Effects.{IsEffect, activated_after, delayed_after, event_writes, first_update, laters, other_updates, run_made, runs}
use Rattle.event_runs.specs.Writers.{CanWrite, IsOrderly, IsSole, are_over}
use Rattle.event_runs.proofs.Laws.{effect, orderly_after, untouched}
use Rattle.event_runs.proofs.May.{late_may, process_now}
use Rattle.event_runs.proofs.Signals.{variable_input}
use Rattle.event_runs.proofs.Writers.{event_within, to_process}
use Rattle.event_runs.proofs.Writes.{laters_cover}
use Rattle.event_edges.specs.Quiet.{IsQuiet, IsQuietRun}
use Rattle.event_edges.specs.Registers.{due_bit, updates_bit}
use Rattle.event_edges.specs.Synchronous.{IsSynchronous}
use Rattle.event_edges.proofs.Cone.{IsVariable}
use Rattle.event_edges.proofs.Hearing.{falsely}
use Rattle.event_edges.proofs.Ports.{sole}
use Rattle.event_edges.proofs.Quiet.{cone_kept, quiet_after}
use Rattle.event_edges.proofs.Registers.{all_written_bit, not_over, updates_append}

-- ---- where the body of a bit doesn't run

module _ (d : Flat) (lawful : AreLawful d) (p : ℕ) (list : List Watched) (body : Actions) (is : doing_at d p ≡ Some (Edge' list body)) (i k : ℕ) (variable : IsVariable d i) (only : IsSole d p i k) where
  -- others ask nothing for the bit
  pub not_others : (s : State) (q : ℕ) → (q ≡ p → ⊥) → (o : Option Doing) → doing_at d q ≡ o → are_over i k (laters (run_made d s.value o)) ≡ true → ⊥
  not_others s q other None at over = false≢true over
  not_others s q other (Some (Assign target e)) at over = false≢true over
  not_others s q other (Some (Comb list' body')) at over =
      only q other (to_process MayWrite d q i k (Comb list' body') at
      (late_may (body_flow (widths d) body') i k (may_late d s.value body' i k (lawful q (Comb list' body') at).1 (laters_cover i k (body_made (widths d) s.value body') ∙ over))))
  not_others s q other (Some (Edge' list' body')) at over =
      only q other (to_process MayWrite d q i k (Edge' list' body') at
      (late_may (body_flow (widths d) body') i k (may_late d s.value body' i k (lawful q (Edge' list' body') at).2 (laters_cover i k (body_made (widths d) s.value body') ∙ over))))

  module _ (s : State) (order : IsOrderly d s) where
    same : (event : Event) → IsThere d s event → (CanWrite d event i k → ⊥) → updates_bit i k s.delayed (updates_bit i k s.activated (bit (after d s event).value i k)) ≡ due_bit s i k
    same event there no_write =
        ap (λ b. updates_bit i k s.delayed (updates_bit i k s.activated b)) (untouched d lawful s event i k there order no_write)

    no_update : (q : ℕ) → IsThere d s (Update q) → CanWrite d (Update q) i k → ⊥
    no_update q there can =
        elim (cases_eq q p) [
          | inl here ↦ false≢true (sym (ap is_assignment (ap (doing_at d) here ∙ is)) ∙ there.0)
          | inr other ↦ only q other can
        ]

    first_made : (us : List (List Write)) → s.activated ≡ us → (us ≡ [] → ⊥) → All (IsWithin (widths d)) (first_update us) → updates_bit i k (other_updates us) (bit (all_written s.value (first_update us)) i k) ≡ updates_bit i k us (bit s.value i k)
    first_made [] here some within = absurd (some refl)
    first_made (us ∷ others) here some within =
        ap (updates_bit i k others) (all_written_bit d i k s.value us order.steady.widths within)

    by_event :
        (event : Event) → IsThere d s event → runs event p ≡ false → IsEffect d s event (event_writes d s event) (after d s event) →
        updates_bit i k (delayed_after d s event) (updates_bit i k (activated_after s event) (bit (after d s event).value i k)) ≡ due_bit s i k
    by_event (Input j) there rests made =
        same (Input j) there (λ here. variable_input d j (subst (IsVariable d) here variable) there.0)
    by_event (Evaluate q) there rests made = same (Evaluate q) there (λ can. can)
    by_event (Update q) there rests made = same (Update q) there (no_update q there)
    by_event (Run q) there rests made =
        let new = laters (run_made d s.value (doing_at d q)) in
        let other : q ≡ p → ⊥ = λ here. false≢true (sym rests ∙ eq-eqb p q (sym here)) in
        updates_append i k s.delayed new (updates_bit i k s.activated (bit (after d s (Run q)).value i k))
        ∙ not_over i k new _ (falsely _ (not_others s q other (doing_at d q) refl))
        ∙ same (Run q) there (λ can. only q other (process_now d q i k can))
    by_event Delayed there rests made =
        ap (updates_bit i k s.delayed)
        (ap (λ v. updates_bit i k (other_updates s.activated) (bit v i k)) made.value
        ∙ first_made s.activated refl there (event_within d lawful s order Delayed there))
    by_event Activate there rests made =
        ap (λ us. updates_bit i k s.delayed (updates_bit i k us (bit s.value i k))) (sym there.0.updates)

    pub due_after : (event : Event) → IsThere d s event → runs event p ≡ false → due_bit (after d s event) i k ≡ due_bit s i k
    due_after event there rests =
        let made = effect d s event there in
        ap (λ us. updates_bit i k us (updates_bit i k (after d s event).activated (bit (after d s event).value i k))) made.delayed
        ∙ ap (λ us. updates_bit i k (delayed_after d s event) (updates_bit i k us (bit (after d s event).value i k))) made.activated
        ∙ by_event event there rests made

-- at rest nothing is due any more
pub due_rest : (s : State) (i k : ℕ) → s.activated ≡ [] → s.delayed ≡ [] → due_bit s i k ≡ bit s.value i k
due_rest s i k activated delayed =
    ap (λ us. updates_bit i k us (updates_bit i k s.activated (bit s.value i k))) delayed
    ∙ ap (λ us. updates_bit i k us (bit s.value i k)) activated

-- ---- quiet runs

module _ (d : Flat) (sync : IsSynchronous d) where
  pub quiet_run : (s : State) (events : List Event) → IsOrderly d s → IsQuiet d s → CanRun d s events → IsQuietRun d s (run d s events)
  quiet_run s [] order quiet can =
      record { order = order; quiet = quiet; cone = λ i k cone. refl }
  quiet_run s (event ∷ events) order quiet can =
      let rest = quiet_run (after d s event) events (orderly_after d sync.lawful s event can.0 order) (quiet_after d sync s order quiet event can.0) can.1 in
      record {
        order = rest.order;
        quiet = rest.quiet;
        cone = λ i k cone. rest.cone i k cone ∙ cone_kept d sync s order quiet event can.0 i k cone;
      }

  -- a body that isn't woken doesn't run
  pub at_rest : (s : State) (p : ℕ) → s.woken p ≡ false → (event : Event) → IsThere d s event → runs event p ≡ false
  at_rest s p still (Input i) there = refl
  at_rest s p still (Evaluate q) there = refl
  at_rest s p still (Update q) there = refl
  at_rest s p still (Run q) there =
      falsely (p == q) (λ same. false≢true (sym still ∙ ap s.woken (eqb-true p q same) ∙ there.1))
  at_rest s p still Delayed there = refl
  at_rest s p still Activate there = refl

  module _ (p : ℕ) (list : List Watched) (body : Actions) (is : doing_at d p ≡ Some (Edge' list body)) (i k : ℕ) (may : MayWrite (body_flow (widths d) body) i k) where
    pub of_body : IsVariable d i
    of_body = writes_variables d body i k (sync.lawful p (Edge' list body) is).2 may

    pub its_sole : IsSole d p i k
    its_sole = sole d sync p (Edge' list body) is i k may

    pub due_run : (s : State) (events : List Event) → IsOrderly d s → IsQuiet d s → CanRun d s events → due_bit (run d s events) i k ≡ due_bit s i k
    due_run s [] order quiet can = refl
    due_run s (event ∷ events) order quiet can =
        due_run (after d s event) events (orderly_after d sync.lawful s event can.0 order) (quiet_after d sync s order quiet event can.0) can.1
        ∙ due_after d sync.lawful p list body is i k of_body its_sole s order event can.0 (at_rest s p (quiet.blocks p list body is) event can.0)
