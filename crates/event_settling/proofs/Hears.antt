-- Who hears an event of a process has a higher level than that, or is the process itself.
use Rattle.std.proofs.Common.{◌≡◌, ◌∙◌, ◌⊎◌, ◌<◌, ℕ, true, false, length, Option, Some, sym, ap, inl, inr}
use Rattle.std.proofs.lemmas.Bool.{false≢true, true≢false}
use Rattle.rtl_flat.specs.Flows.{flow_of}
use Rattle.rtl_flat.specs.Paths.{MayWrite, MayWriteNow}
use Rattle.rtl_flat.specs.Process.{Doing, Assign, Comb, Edge'}
use Rattle.event_model.specs.Policies.{is_below}
use Rattle.event_model.specs.Queue.{State, Run, Update, IsThere, doing_at, is_assignment}
use Rattle.rtl_flat.specs.Flats.{Flat, widths}
use Rattle.event_runs.specs.event_laws.Steady.{AreLawful}
use Rattle.event_runs.specs.Effects.{event_writes, is_heard}
use Rattle.event_runs.specs.Writers.{IsOrderly}
use Rattle.event_runs.proofs.May.{now_may}
use Rattle.event_runs.proofs.Writers.{event_over, event_within, of_process}
use Rattle.event_settling.specs.Settling.{IsSettling}
use Rattle.event_settling.proofs.Facts.{listener_above, some_doing, temporary_own}
use Rattle.event_settling.proofs.Waking.{attends, reached}

module _ (d : Flat) (level : ℕ → Option ℕ) (cone : ℕ → Type 0) (h : IsSettling d level cone) (lawful : AreLawful d) (s : State) (orderly : IsOrderly d s) where
  abbrev Above : ℕ → ℕ → Type 0
  Above p q = is_below (level p) (level q) ≡ true

  -- who hears an update of a driver
  pub hears_update :
      (p q : ℕ) → IsThere d s (Update p) → q < length d.tasks → is_heard d s.value (event_writes d s (Update p)) (doing_at d q) ≡ true →
      Above p q
  hears_update p q there inside hears =
      let it = some_doing d q inside in
      let at = reached d s.value (event_writes d s (Update p)) it.0 orderly.steady.widths (event_within d lawful s orderly (Update p) there) (sym (ap (is_heard d s.value (event_writes d s (Update p))) it.1) ∙ hears) in
      let may = event_over d lawful s orderly (Update p) at.signal at.bit at.over in
      let one = of_process MayWrite d p at.signal at.bit may in
      by_kind one.0 one.1 (ap is_assignment (sym one.1) ∙ there.0) it.0 it.1 at.signal at.bit one.2 at.attended
    where
      by_kind :
          (one : Doing) → doing_at d p ≡ Some one → is_assignment (Some one) ≡ true → (other : Doing) → doing_at d q ≡ Some other → (i k : ℕ) →
          MayWrite (flow_of (widths d) one) i k → attends (widths d) other i k ≡ true → Above p q
      by_kind (Comb list body) e is other f i k may attended = absurd (false≢true is)
      by_kind (Edge' events body) e is other f i k may attended = absurd (false≢true is)
      by_kind (Assign target value) e is other f i k may attended =
          elim (listener_above d level cone h p q (Assign target value) other e tt f i k may attended) [
            | inl own ↦ absurd (true≢false (sym is ∙ ap is_assignment (sym e) ∙ ap (λ j. is_assignment (doing_at d j)) (sym own.1) ∙ ap is_assignment f ∙ own.0))
            | inr above ↦ above
          ]

  -- who hears a body
  pub hears_run :
      (p q : ℕ) → IsThere d s (Run p) → q < length d.tasks → is_heard d s.value (event_writes d s (Run p)) (doing_at d q) ≡ true →
      (q ≡ p) ⊎ Above p q
  hears_run p q there inside hears =
      let it = some_doing d q inside in
      let at = reached d s.value (event_writes d s (Run p)) it.0 orderly.steady.widths (event_within d lawful s orderly (Run p) there) (sym (ap (is_heard d s.value (event_writes d s (Run p))) it.1) ∙ hears) in
      let may = event_over d lawful s orderly (Run p) at.signal at.bit at.over in
      let one = of_process MayWriteNow d p at.signal at.bit may in
      by_kind one.0 one.1 it.0 it.1 at.signal at.bit one.2 at.attended
    where
      either : (other : Doing) → ((is_assignment (Some other) ≡ false) × (q ≡ p)) ⊎ Above p q → (q ≡ p) ⊎ Above p q
      either other (inl own) = inl own.1
      either other (inr above) = inr above

      by_kind :
          (one : Doing) → doing_at d p ≡ Some one → (other : Doing) → doing_at d q ≡ Some other → (i k : ℕ) →
          MayWriteNow (flow_of (widths d) one) i k → attends (widths d) other i k ≡ true → (q ≡ p) ⊎ Above p q
      by_kind (Assign target value) e other f i k may attended =
          either other (listener_above d level cone h p q (Assign target value) other e tt f i k (now_may (flow_of (widths d) (Assign target value)) i k may) attended)
      by_kind (Comb list body) e other f i k may attended =
          either other (listener_above d level cone h p q (Comb list body) other e tt f i k (now_may (flow_of (widths d) (Comb list body)) i k may) attended)
      by_kind (Edge' events body) e other f i k may attended =
          inl (temporary_own d level cone h p q other f i k (h.temporaries p events body e i k may) attended)
