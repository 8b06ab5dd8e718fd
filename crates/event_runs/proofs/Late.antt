-- Updates that are still to be made are late, and an event leaves each bit that it can't write.
use Rattle.std.proofs.Common.{◌≡◌, ◌∙◌, ℕ, true, List, [], ◌∷◌, Option, None, Some, get_or, refl, sym, ap, inl, inr}
use Rattle.std.specs.List.{list_any}
use Rattle.std.proofs.lemmas.Bool.{cases_Bool, false≢true, or_cases, or_right}
use Rattle.std.proofs.lemmas.List.Folds.{list_any-append}
use Rattle.rtl_bits.specs.declared.Bit.TheVariants.{X}
use Rattle.rtl_flat.specs.Paths.{MayWriteLate}
use Rattle.rtl_flat.specs.Process.{Doing, Assign, Comb, Edge'}
use Rattle.event_model.specs.Bodies.{body_made}
use Rattle.event_model.specs.Queue.{State, Event, Input, Evaluate, Update, Run, Delayed, Activate, CanRun, IsThere, after, doing_at, power_up, run}
use Rattle.rtl_flat.specs.Flats.{Flat, widths}
use Rattle.event_model.specs.Traces.{Same, covers}
use Rattle.event_model.specs.Writes.{Write}
use Rattle.event_laws.specs.Steady.{AreLawful}
use Rattle.event_laws.proofs.Steady.{steady_after, steady_power_up}
use Rattle.event_laws.proofs.Laws.{may_late}
use Rattle.event_runs.specs.Effects.{activated_after, delayed_after, event_writes, laters, other_updates, run_made}
use Rattle.event_runs.specs.Writers.{AreLate, CanWrite, IsLateBit, IsOrderly, are_over}
use Rattle.event_runs.proofs.Effects.{effect}
use Rattle.event_runs.proofs.Writers.{event_over, event_within, to_process}
use Rattle.event_runs.proofs.Writes.{kept, laters_cover}

-- ---- late updates

none_late : (i k : ℕ) → are_over i k [] ≡ true → ⊥
none_late i k over = false≢true over

-- with no update to be made all are late
pub late_none : (d : Flat) (s : State) → s.activated ≡ [] → s.delayed ≡ [] → AreLate d s
late_none d s activated delayed =
    record {
      activated = λ i k over. absurd (none_late i k (sym (ap (are_over i k) activated) ∙ over));
      delayed = λ i k over. absurd (none_late i k (sym (ap (are_over i k) delayed) ∙ over));
    }

module _ (d : Flat) (lawful : AreLawful d) (s : State) (late : AreLate d s) where
  late_made :
      (p : ℕ) (does : Option Doing) → doing_at d p ≡ does → (i k : ℕ) → are_over i k (laters (run_made d s.value does)) ≡ true → IsLateBit d i k
  late_made p None here i k over = absurd (none_late i k over)
  late_made p (Some (Assign target e)) here i k over = absurd (none_late i k over)
  late_made p (Some (Comb list body)) here i k over =
      record {
        process = p;
        may = to_process MayWriteLate d p i k (Comb list body) here
            (may_late d s.value body i k (lawful p (Comb list body) here).1 (laters_cover i k (body_made (widths d) s.value body) ∙ over));
      }
  late_made p (Some (Edge' events body)) here i k over =
      record {
        process = p;
        may = to_process MayWriteLate d p i k (Edge' events body) here
            (may_late d s.value body i k (lawful p (Edge' events body) here).2 (laters_cover i k (body_made (widths d) s.value body) ∙ over));
      }

  late_others : (us : List (List Write)) → ((i k : ℕ) → are_over i k us ≡ true → IsLateBit d i k) → (i k : ℕ) → are_over i k (other_updates us) ≡ true → IsLateBit d i k
  late_others [] h i k over = absurd (none_late i k over)
  late_others (us ∷ others) h i k over = h i k (or_right (list_any (covers i k) us) (are_over i k others) over)

  late_activated : (event : Event) (i k : ℕ) → are_over i k (activated_after s event) ≡ true → IsLateBit d i k
  late_activated (Input j) i k over = late.activated i k over
  late_activated (Evaluate p) i k over = late.activated i k over
  late_activated (Update p) i k over = late.activated i k over
  late_activated (Run p) i k over = late.activated i k over
  late_activated Delayed i k over = late_others s.activated late.activated i k over
  late_activated Activate i k over = late.delayed i k over

  late_delayed : (event : Event) (i k : ℕ) → are_over i k (delayed_after d s event) ≡ true → IsLateBit d i k
  late_delayed (Input j) i k over = late.delayed i k over
  late_delayed (Evaluate p) i k over = late.delayed i k over
  late_delayed (Update p) i k over = late.delayed i k over
  late_delayed (Run p) i k over =
      let new = laters (run_made d s.value (doing_at d p)) in
      elim (or_cases (are_over i k s.delayed) (are_over i k new) (sym (list_any-append (list_any (covers i k)) s.delayed new) ∙ over)) [
        | inl old ↦ late.delayed i k old
        | inr made ↦ late_made p (doing_at d p) refl i k made
      ]
  late_delayed Delayed i k over = late.delayed i k over
  late_delayed Activate i k over = absurd (none_late i k over)

  pub late_after : (event : Event) → IsThere d s event → AreLate d (after d s event)
  late_after event there =
      let e = effect d s event there in
      record {
        activated = λ i k over. late_activated event i k (sym (ap (are_over i k) e.activated) ∙ over);
        delayed = λ i k over. late_delayed event i k (sym (ap (are_over i k) e.delayed) ∙ over);
      }

-- ---- orderly states

pub orderly_after : (d : Flat) → AreLawful d → (s : State) (event : Event) → IsThere d s event → IsOrderly d s → IsOrderly d (after d s event)
orderly_after d lawful s event there h =
    record { steady = steady_after d lawful s event there h.steady; late = late_after d lawful s h.late event there }

pub orderly_run : (d : Flat) → AreLawful d → (s : State) (events : List Event) → CanRun d s events → IsOrderly d s → IsOrderly d (run d s events)
orderly_run d lawful s [] can h = h
orderly_run d lawful s (event ∷ events) can h =
    orderly_run d lawful (after d s event) events can.1 (orderly_after d lawful s event can.0 h)

pub orderly_power_up : (d : Flat) → IsOrderly d (power_up d)
orderly_power_up d =
    record { steady = steady_power_up d; late = late_none d (power_up d) refl refl }

-- ---- bits that stay

-- a bit that no event writes
pub untouched :
    (d : Flat) → AreLawful d → (s : State) (event : Event) → IsThere d s event → IsOrderly d s → (i k : ℕ) → (CanWrite d event i k → ⊥) →
    Same (after d s event).value s.value i k
untouched d lawful s event there h i k cannot =
    ap (λ v. get_or (v i) k X) (effect d s event there).value
    ∙ elim (cases_Bool (list_any (covers i k) (event_writes d s event))) [
      | inl over ↦ absurd (cannot (event_over d lawful s h event i k over))
      | inr none ↦ kept d s.value (event_writes d s event) h.steady.widths (event_within d lawful s h event there) i k none
    ]
