-- Plain blocks that wait and have run are consistent.
use Rattle.std.proofs.Common.{◌≡◌, ◌≢◌, ◌∙◌, ℕ, Bool, true, false, ◌||◌, if◌then◌else◌, List, [], ◌∷◌, Option, Some, get_or, refl, sym, ap, subst, inl, inr}
use Rattle.std.specs.List.{All, list_any}
use Rattle.std.proofs.lemmas.Bool.{cases_Bool, cases_eq, eq-eqb, eqb-true, false_from_ne_true, false≢true, ne_eqb, or_cases, or_from, or_parts, true≢false}
use Rattle.rtl_bits.specs.declared.Bit.TheVariants.{X}
use Rattle.rtl_flat.specs.Flows.{body_flow}
use Rattle.rtl_flat.specs.Paths.{IsPath, MayWrite, MayWriteLate}
use Rattle.rtl_flat.specs.PathSets.{OfProcess, listed}
use Rattle.rtl_flat.specs.Process.{Actions, Comb, Watched}
use Rattle.rtl_flat.specs.WellFormed.{IsBody}
use Rattle.event_model.specs.Bodies.{body_made}
use Rattle.event_model.specs.Queue.{State, Event, Input, Evaluate, Update, Run, Delayed, Activate, CanRun, IsThere, after, doing_at, is_assignment, is_input, run}
use Rattle.rtl_flat.specs.Flats.{Flat, widths}
use Rattle.event_model.specs.Traces.{FollowsPath, Same, covers, makes_now}
use Rattle.event_model.specs.Writes as writes
use Rattle.event_model.specs.Writes.{Values, all_written}
use Rattle.event_laws.specs.Steady.{AreLawful, HaveWidths, IsWithin}
use Rattle.event_laws.specs.Laws.{AgreeOutside, RunAlike, after_body}
use Rattle.event_laws.proofs.Laws.{depends, have_made, made_alike, made_out, may_now, writes_variables}
use Rattle.event_runs.specs.Effects.{evaluates, event_writes, is_heard, nows, run_made, runs}
use Rattle.event_runs.specs.Plain.{AreStill, AreUnheard, IsConsistent, IsPlain, ran_after, ran_by}
use Rattle.event_runs.specs.Writers.{CanWrite, IsOrderly}
use Rattle.event_runs.proofs.Effects.{effect}
use Rattle.event_runs.proofs.Signals.{variable_input}
use Rattle.event_runs.proofs.Late.{orderly_after}
use Rattle.event_runs.proofs.May.{now_may, process_late, process_now}
use Rattle.event_runs.proofs.Writers.{event_over, event_within, from_process}
use Rattle.event_runs.proofs.Writes.{after_nows, have_all, kept, unheard_all}

-- ---- one block

module _ (d : Flat) (lawful : AreLawful d) (p : ℕ) (list : Option (List Watched)) (body : Actions) (here : doing_at d p ≡ Some (Comb list body)) where
  is_body : IsBody d.signals body
  is_body = (lawful p (Comb list body) here).1

  -- an assignment is another process
  no_assignment : (q : ℕ) → is_assignment (doing_at d q) ≡ true → q ≢ p
  no_assignment q is same = false≢true (ap is_assignment (sym here) ∙ ap (λ n. is_assignment (doing_at d n)) (sym same) ∙ is)

  module _ (plain : IsPlain d p list body) where
    -- what another event can write, the block can't
    apart : (s : State) (event : Event) → IsThere d s event → runs event p ≡ false → (i k : ℕ) → MayWrite (body_flow (widths d) body) i k → CanWrite d event i k → ⊥
    apart s (Input j) there other i k may can =
        variable_input d i (writes_variables d body i k is_body may) (ap (is_input d) can ∙ there.0)
    apart s (Evaluate q) there other i k may can = can
    apart s (Update q) there other i k may can = plain.alone i k may q (no_assignment q there.0) can
    apart s (Run q) there other i k may can =
        plain.alone i k may q (λ same. true≢false (sym (eq-eqb p q (sym same)) ∙ other)) (process_now d q i k can)
    apart s Delayed there other i k may can =
        elim (cases_eq can.process p) [
          | inl same ↦ plain.no_late i k (from_process MayWriteLate d p i k (Comb list body) here (subst (λ q. OfProcess MayWriteLate d.signals d.tasks q i k) same can.may))
          | inr different ↦ plain.alone i k may can.process different (process_late d can.process i k can.may)
        ]
    apart s Activate there other i k may can = can

    -- writes that it doesn't hear and that aren't over its bits
    still_write :
        (v : Values) (us : List writes.Write) → HaveWidths d v → All (IsWithin (widths d)) us → is_heard d v us (Some (Comb list body)) ≡ false →
        ((i k : ℕ) → MayWrite (body_flow (widths d) body) i k → list_any (covers i k) us ≡ false) →
        (FollowsPath (widths d) v body → IsConsistent d v body) →
        FollowsPath (widths d) (all_written v us) body → IsConsistent d (all_written v us) body
    still_write v us have inside deaf not_over before follows i k lasting =
        elim (cases_Bool (list_any (makes_now i k) (body_made (widths d) v' body))) [
          | inl made ↦
              made_alike d v' v body i k have' have is_body both.made (inr made)
              ∙ before follows' i k lasting
              ∙ sym (kept d v us have inside i k (not_over i k (now_may _ i k (may_now d v' body i k is_body made))))
          | inr none ↦ made_out d v' body i k have' is_body none
        ]
      where
        v' : Values
        v' = all_written v us

        have' : HaveWidths d v'
        have' = have_all d v us have inside

        agree : AgreeOutside d body v' v
        agree i k reads = unheard_all d list body (lawful p (Comb list body) here).0 v us have inside deaf i k (plain.lists i k reads)

        both : RunAlike d body v' v
        both = depends d v' v body have' have is_body follows agree

        follows' : FollowsPath (widths d) v body
        follows' = subst (IsPath (body_flow (widths d) body)) both.steps follows

    -- its own run
    still_again :
        (v : Values) → HaveWidths d v → FollowsPath (widths d) (after_body d v body) body → IsConsistent d (after_body d v body) body
    still_again v have follows i k lasting =
        elim (cases_Bool (list_any (makes_now i k) (body_made (widths d) v' body))) [
          | inl made ↦ made_alike d v' v body i k have' have is_body both.made (inr made)
          | inr none ↦ made_out d v' body i k have' is_body none
        ]
      where
        v' : Values
        v' = after_body d v body

        have' : HaveWidths d v'
        have' = have_made d v body have is_body

        agree : AgreeOutside d body v' v
        agree i k reads =
            made_out d v body i k have is_body
            (false_from_ne_true _ (λ made. plain.apart i k reads (now_may _ i k (may_now d v body i k is_body made))))

        both : RunAlike d body v' v
        both = depends d v' v body have' have is_body follows agree

  -- ---- events

  no_evaluation : (s : State) (event : Event) → IsThere d s event → evaluates event p ≡ false
  no_evaluation s (Input j) there = refl
  no_evaluation s (Evaluate q) there = ne_eqb p q (λ same. no_assignment q there.0 (sym same))
  no_evaluation s (Update q) there = refl
  no_evaluation s (Run q) there = refl
  no_evaluation s Delayed there = refl
  no_evaluation s Activate there = refl

  -- where it waits after an event that isn't its own, it waited before, and heard nothing
  waited :
      (s : State) (event : Event) → IsThere d s event → runs event p ≡ false → (after d s event).woken p ≡ false →
      (s.woken p ≡ false) × (is_heard d s.value (event_writes d s event) (Some (Comb list body)) ≡ false)
  waited s event there other waits =
      let us = event_writes d s event in
      let heard' = is_heard d s.value us (doing_at d p) in
      let turn = or_from (evaluates event p) (runs event p) (no_evaluation s event there) other in
      let now = ap (λ b. if b then false else (s.woken p || heard')) (sym turn) ∙ sym ((effect d s event there).woken p) ∙ waits in
      let parts = or_parts (s.woken p) heard' now in
      (parts.0, ap (is_heard d s.value us) (sym here) ∙ parts.1)

  -- the values after its own run
  own_run : (s : State) (event : Event) → IsThere d s event → runs event p ≡ true → (after d s event).value ≡ after_body d s.value body
  own_run s (Input j) there mine = absurd (false≢true mine)
  own_run s (Evaluate q) there mine = absurd (false≢true mine)
  own_run s (Update q) there mine = absurd (false≢true mine)
  own_run s (Run q) there mine =
      (effect d s (Run q) there).value
      ∙ ap (λ n. all_written s.value (nows (run_made d s.value (doing_at d n)))) (sym (eqb-true p q mine))
      ∙ ap (λ x. all_written s.value (nows (run_made d s.value x))) here
      ∙ sym (after_nows s.value (body_made (widths d) s.value body))
  own_run s Delayed there mine = absurd (false≢true mine)
  own_run s Activate there mine = absurd (false≢true mine)

  pub still_one :
      IsPlain d p list body → (ran : ℕ → Bool) (s : State) (event : Event) → IsThere d s event → IsOrderly d s →
      (s.woken p ≡ false → ran p ≡ true → FollowsPath (widths d) s.value body → IsConsistent d s.value body) →
      (after d s event).woken p ≡ false → ran_by ran event p ≡ true →
      FollowsPath (widths d) (after d s event).value body → IsConsistent d (after d s event).value body
  still_one plain ran s event there h before waits has_run =
      elim (cases_Bool (runs event p)) [
        | inl mine ↦
            subst (λ v. FollowsPath (widths d) v body → IsConsistent d v body) (sym (own_run s event there mine)) (still_again plain s.value h.steady.widths)
        | inr other ↦
            let (waited', deaf) = waited s event there other waits in
            subst (λ v. FollowsPath (widths d) v body → IsConsistent d v body) (sym (effect d s event there).value)
            (still_write plain s.value (event_writes d s event) h.steady.widths (event_within d lawful s h event there) deaf
            (λ i k may. false_from_ne_true _ (λ over. apart plain s event there other i k may (event_over d lawful s h event i k over)))
            (before waited' (ran_before other)))
      ]
    where
      ran_before : runs event p ≡ false → ran p ≡ true
      ran_before other =
          elim (or_cases (ran p) (runs event p) has_run) [
            | inl earlier ↦ earlier
            | inr mine ↦ absurd (true≢false (sym mine ∙ other))
          ]

  pub unheard_one :
      (ran : ℕ → Bool) (first : Values) (s : State) (event : Event) → IsThere d s event → IsOrderly d s →
      (s.woken p ≡ false → ran p ≡ false → (i k : ℕ) → listed (widths d) (Comb list body) i k ≡ true → Same s.value first i k) →
      (after d s event).woken p ≡ false → ran_by ran event p ≡ false →
      (i k : ℕ) → listed (widths d) (Comb list body) i k ≡ true → Same (after d s event).value first i k
  unheard_one ran first s event there h before waits not_yet i k is =
      let parts = or_parts (ran p) (runs event p) not_yet in
      let (waited', deaf) = waited s event there parts.1 waits in
      ap (λ v. get_or (v i) k X) (effect d s event there).value
      ∙ unheard_all d list body (lawful p (Comb list body) here).0 s.value (event_writes d s event) h.steady.widths
      (event_within d lawful s h event there) deaf i k is
      ∙ before waited' parts.0 i k is

-- ---- all blocks

pub still_after :
    (d : Flat) → AreLawful d → (ran : ℕ → Bool) (s : State) (event : Event) → IsThere d s event → IsOrderly d s → AreStill d ran s →
    AreStill d (ran_by ran event) (after d s event)
still_after d lawful ran s event there h still p list body here plain =
    still_one d lawful p list body here plain ran s event there h (still p list body here plain)

pub still_run :
    (d : Flat) → AreLawful d → (ran : ℕ → Bool) (s : State) (events : List Event) → CanRun d s events → IsOrderly d s → AreStill d ran s →
    AreStill d (ran_after ran events) (run d s events)
still_run d lawful ran s [] can h still = still
still_run d lawful ran s (event ∷ events) can h still =
    still_run d lawful (ran_by ran event) (after d s event) events can.1 (orderly_after d lawful s event can.0 h)
    (still_after d lawful ran s event can.0 h still)

pub unheard_after :
    (d : Flat) → AreLawful d → (ran : ℕ → Bool) (first : Values) (s : State) (event : Event) → IsThere d s event → IsOrderly d s →
    AreUnheard d ran first s → AreUnheard d (ran_by ran event) first (after d s event)
unheard_after d lawful ran first s event there h unheard p list body here =
    unheard_one d lawful p list body here ran first s event there h (unheard p list body here)

pub unheard_run :
    (d : Flat) → AreLawful d → (ran : ℕ → Bool) (first : Values) (s : State) (events : List Event) → CanRun d s events → IsOrderly d s →
    AreUnheard d ran first s → AreUnheard d (ran_after ran events) first (run d s events)
unheard_run d lawful ran first s [] can h unheard = unheard
unheard_run d lawful ran first s (event ∷ events) can h unheard =
    unheard_run d lawful (ran_by ran event) first (after d s event) events can.1 (orderly_after d lawful s event can.0 h)
    (unheard_after d lawful ran first s event can.0 h unheard)
