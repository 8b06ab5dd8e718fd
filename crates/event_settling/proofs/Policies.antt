-- In each of the three orders of a simulator a step comes to where no event is left.
use Rattle.std.proofs.Common.{◌≡◌, ◌+◌, ◌≤◌, ℕ, zero, suc, List, [], ◌∷◌, Option, None, Some, refl, sym, ap, subst, ◌∙◌, inl, inr, arith}
use Rattle.event_model.specs.declared.policy.Policy.{Policy}
use Rattle.event_model.specs.Order.{IsReady, active, ready, ready_where}
use Rattle.event_model.specs.Policies.{PolicyRun, Here, Next, chosen, cost}
use Rattle.event_model.specs.Queue.{State, Event, Activate, HasNoActive, after}
use Rattle.rtl_flat.specs.Flats.{Flat}
use Rattle.event_model.specs.Writes.{Write}
use Rattle.event_model.proofs.Active.{no_active}
use Rattle.event_model.proofs.Runs.{chosen_there, policy_ready, policy_rests}
use Rattle.event_runs.specs.event_laws.Steady.{AreLawful}
use Rattle.event_runs.specs.Writers.{IsOrderly}
use Rattle.event_runs.proofs.Late.{orderly_after}
use Rattle.event_settling.specs.Settling.{IsSettling}
use Rattle.event_settling.proofs.Going.{orderly_active}
use Rattle.event_settling.proofs.Quiet.{begins_quiet}
use Rattle.event_settling.specs.Ending.{PoliciesRest, PolicyRests, bound, later_wave}
use Rattle.event_settling.proofs.Ends.{Lasts, activated, begins, goes}
use Rattle.event_settling.proofs.Few.{per}

module _ (d : Flat) (lawful : AreLawful d) (level : ℕ → Option ℕ) (cone : ℕ → Type 0) (h : IsSettling d level cone) where
  abbrev IsOn : State → ℕ → Type 0
  IsOn s room = IsOrderly d s × Lasts d lawful level cone h s room

  cons_some : {A : Type 0} (x : A) (xs : List A) → x ∷ xs ≡ [] → ⊥
  cons_some x xs e = cc

  more_room : (s : State) (left room : ℕ) → left ≤ room → Lasts d lawful level cone h s left → Lasts d lawful level cone h s room
  more_room s left room less (inl most) = inl (omega (arith, less, most))
  more_room s left room less (inr (quiet, most)) = inr (quiet, omega (arith, less, most))

  -- where nothing is active, nonblocking updates become so
  activates : (s : State) (room : ℕ) → IsOn s room → HasNoActive d s → (us : List (List Write)) → s.delayed ≡ us → IsOn (after d s Activate) room
  activates s room on still [] none =
      let most = activated d lawful level cone h s still in
      let nothing = ap (per (later_wave d)) none in
      (orderly_active d lawful level cone h s on.0, inr (begins_quiet d cone level h s still, omega (arith, most, nothing)))
  activates s room on still (u ∷ us) some =
      let it = goes d lawful level cone h s on.0 room on.1 Activate (still, λ none. cons_some u us (sym some ∙ none)) in
      let one = it.1 in
      (orderly_active d lawful level cone h s on.0, more_room (after d s Activate) it.0 room (omega (arith, one)) it.2)

  made_ready : (s : State) (room : ℕ) → IsOn s room → (es : List Event) → active d s ≡ es → IsOn (ready_where d s es) room
  made_ready s room on [] none = activates s room on (no_active d s none) s.delayed refl
  made_ready s room on (event ∷ es) some = on

  module _ (policy : Policy) (order : ℕ → Option ℕ) (s : State) (is_ready : IsReady d s) where
    to_rest :
        (room : ℕ) (t : State) (spent : ℕ) → PolicyRun policy order d s spent t → IsOn t room → (o : Option Event) →
        chosen policy order d t ≡ o → PolicyRests policy order d s
    to_rest room t spent before on None none =
        record {
          spent = spent;
          state = t;
          run = before;
          done = none;
          rest = policy_rests policy order d t (policy_ready policy order d s t spent is_ready before) none;
        }
    to_rest zero t spent before on (Some event) next =
        let it = goes d lawful level cone h t on.0 0 on.1 event (chosen_there policy order d t event next) in
        let one = it.1 in
        absurd (omega (arith, one))
    to_rest (suc room) t spent before on (Some event) next =
        let there = chosen_there policy order d t event next in
        let it = goes d lawful level cone h t on.0 (suc room) on.1 event there in
        let one = it.1 in
        let same : it.0 ≡ room = omega (arith, one) in
        let u = after d t event in
        let on' = made_ready u room (orderly_after d lawful t event there on.0, subst (Lasts d lawful level cone h u) same it.2) (active d u) refl in
        to_rest room (ready d u) (spent + cost d event) (Next s t spent event before next) on' (chosen policy order d (ready d u)) refl

  pub policies_rest : PoliciesRest d
  policies_rest policy order s start =
      to_rest policy order s (λ none. start.delayed) (bound d) s 0 (Here s) (start.orderly, inl (begins d lawful level cone h s start))
      (chosen policy order d s) refl
