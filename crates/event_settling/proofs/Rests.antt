-- Every step of a design that settles by level comes to rest within the budget.
use Rattle.std.proofs.Common.{◌≡◌, ◌+◌, ◌<◌, ◌≤◌, ℕ, zero, suc, List, [], ◌∷◌, length, Option, None, Some, refl, subst, inl, inr, arith}
use Rattle.std.proofs.lemmas.List.Elements.{All-head, All-tail}
use Rattle.rtl_bits.specs.declared.Bit.{Bit}
use Rattle.event_model.specs.declared.policy.Policy.TheVariants.{Level}
use Rattle.event_model.specs.Order.{ready}
use Rattle.event_model.specs.Policies.{PolicyRun, Here, Next, budget, chosen, cost}
use Rattle.event_model.specs.Queue.{State, Event, after, offer, power_up}
use Rattle.rtl_flat.specs.Flats.{Flat, widths}
use Rattle.event_model.specs.Writes.{put}
use Rattle.event_model.proofs.Active.{no_active}
use Rattle.event_model.proofs.Runs.{none_left, policy_ready, policy_rests}
use Rattle.event_runs.specs.event_laws.Steady.{AreLawful}
use Rattle.event_runs.proofs.event_laws_proofs.Steady.{steady_offer}
use Rattle.event_runs.proofs.Late.{orderly_power_up}
use Rattle.event_settling.specs.Settling.{AlwaysSettles, AreTaken, Begin, Further, ComesToRest, Fits, IsBegun, IsSettling, Rests, Settles, StepsBegin}
use Rattle.event_settling.proofs.Going.{IsGoing, begins, goes}

module _ (d : Flat) (lawful : AreLawful d) (level : ℕ → Option ℕ) (cone : ℕ → Type 0) (h : IsSettling d level cone) where
  -- ---- along a run

  -- what is left, some way into a step
  record IsLeft (t : State) (spent room : ℕ) : Type 0 where
    pub left : ℕ
    pub size : ℕ
    pub pays : left + spent ≡ room
    pub going : IsGoing d level cone t left size

  along : (s t : State) (spent room size : ℕ) → IsGoing d level cone s room size → PolicyRun Level level d s spent t → IsLeft t spent room
  along s t spent room size going (Here u) = record { left = room; size = size; pays = omega arith; going = going }
  along s t spent room size going (Next begun u n event before next) =
      let it = along begun u n room size going before in
      let more = goes d lawful level cone h u it.left it.size event it.going next in
      let pays = it.pays in
      let pays' = more.pays in
      record { left = more.left; size = more.smaller; pays = omega (arith, pays, pays'); going = more.going }

  pub settles : Settles d level
  settles s t spent left begun run all dear =
      let it = along s t spent (budget d) (budget d + 1) (begins d lawful level cone h s begun) run in
      let more = goes d lawful level cone h t it.left it.size dear.event it.going dear.next in
      let pays = it.pays in
      let pays' = more.pays in
      let too_dear = dear.dear in
      omega (arith, all, pays, pays', too_dear)

  -- ---- a run to rest

  -- a state in a step from another, with what was spent
  record IsOnTheWay (s t : State) (size : ℕ) : Type 0 where
    pub spent : ℕ
    pub left : ℕ
    pub run : PolicyRun Level level d s spent t
    pub pays : left + spent ≡ budget d
    pub going : IsGoing d level cone t left size

  further :
      (s t : State) (size : ℕ) (event : Event) (way : IsOnTheWay s t size) (next : chosen Level level d t ≡ Some event) →
      IsOnTheWay s (ready d (after d t event)) (goes d lawful level cone h t way.left size event way.going next).smaller
  further s t size event way next =
      let more = goes d lawful level cone h t way.left size event way.going next in
      let pays = way.pays in
      let pays' = more.pays in
      record {
        spent = way.spent + cost d event;
        left = more.left;
        run = Next s t way.spent event way.run next;
        pays = omega (arith, pays, pays');
        going = more.going;
      }

  -- by the number that falls, and then by the updates that are active
  by_updates :
      (s : State) (size : ℕ) → ((n : ℕ) (t : State) → n < size → IsOnTheWay s t n → ComesToRest d level s) →
      (most : ℕ) (t : State) → length t.activated < most → IsOnTheWay s t size → ComesToRest d level s
  by_updates s size smaller zero t few way = absurd (omega (arith, few))
  by_updates s size smaller (suc most) t few way = by_choice (chosen Level level d t) refl (λ u fewer way'. by_updates s size smaller most u (omega (arith, fewer, few)) way')
    where
      by_choice :
          (o : Option Event) → chosen Level level d t ≡ o →
          ((u : State) → length u.activated < length t.activated → IsOnTheWay s u size → ComesToRest d level s) → ComesToRest d level s
      by_choice None none again =
          let pays = way.pays in
          record {
            spent = way.spent;
            state = t;
            run = way.run;
            done = none;
            within = omega (arith, pays);
            rest = λ ready'. policy_rests Level level d t (policy_ready Level level d s t way.spent ready' way.run) none;
          }
      by_choice (Some event) next again =
          let more = goes d lawful level cone h t way.left size event way.going next in
          let way' = further s t size event way next in
          elim more.falls [
            | inl less ↦ smaller more.smaller (ready d (after d t event)) less way'
            | inr same ↦ again (ready d (after d t event)) same.1 (subst (IsOnTheWay s (ready d (after d t event))) same.0 way')
          ]

  by_size : (s : State) (size n : ℕ) (t : State) → n < size → IsOnTheWay s t n → ComesToRest d level s
  by_size s zero n t less way = absurd (omega (arith, less))
  by_size s (suc size) n t less way =
      by_updates s n (λ m u less' way'. by_size s size m u (omega (arith, less, less')) way') (length t.activated + 1) t (omega arith) way

  pub rests : Rests d level
  rests s begun =
      by_size s (budget d + 1 + 1) (budget d + 1) s (omega arith)
      (record { spent = 0; left = budget d; run = Here s; pays = omega arith; going = begins d lawful level cone h s begun })

  -- ---- steps from power-up

  begun_power_up : IsBegun d (power_up d)
  begun_power_up =
      record {
        orderly = orderly_power_up d;
        drivers = λ p is. refl;
      }

  begun_offer : (s : State) (step : List (ℕ × List Bit)) → Fits d step → IsBegun d s → IsBegun d (offer s step)
  begun_offer s [] fits begun = begun
  begun_offer s (one ∷ others) fits begun =
      begun_offer (record s { offered = put s.offered one.0 (Some one.1) }) others (All-tail (λ (x : ℕ × List Bit). length x.1 ≤ widths d x.0) one others fits)
      (record {
        orderly = record {
          steady = steady_offer d s one.0 one.1 (All-head (λ (x : ℕ × List Bit). length x.1 ≤ widths d x.0) one others fits) begun.orderly.steady;
          late = record { activated = begun.orderly.late.activated; delayed = begun.orderly.late.delayed };
        };
        drivers = begun.drivers;
      })

  -- each step begins where it may
  begun_taken : (steps : List (List (ℕ × List Bit))) (s : State) → AreTaken level d steps s → IsBegun d s
  begun_taken steps s (Begin) = begun_power_up
  begun_taken steps s (Further before step u t spent taken fits run done) =
      let begun = begun_offer u step fits (begun_taken before u taken) in
      let it = along (offer u step) t spent (budget d) (budget d + 1) (begins d lawful level cone h (offer u step) begun) run in
      record {
        orderly = it.going.orderly;
        drivers = (no_active d t (none_left Level level d t done)).drivers;
      }

  -- and nothing is delayed there
  none_delayed : (s : State) (step : List (ℕ × List Bit)) → s.delayed ≡ [] → (offer s step).delayed ≡ []
  none_delayed s [] none = none
  none_delayed s (one ∷ others) none = none_delayed (record s { offered = put s.offered one.0 (Some one.1) }) others none

  rested : (steps : List (List (ℕ × List Bit))) (s : State) → AreTaken level d steps s → s.delayed ≡ []
  rested steps s (Begin) = refl
  rested steps s (Further before step u t spent taken fits run done) =
      (policy_rests Level level d t (policy_ready Level level d (offer u step) t spent (λ none. none_delayed u step (rested before u taken)) run) done).no_delayed

  pub steps_begin : StepsBegin d level
  steps_begin steps step s taken fits =
      (begun_offer s step fits (begun_taken steps s taken), λ none. none_delayed s step (rested steps s taken))

  pub always_settled : AlwaysSettles d level
  always_settled steps step s t spent left taken fits run all dear =
      settles (offer s step) t spent left (steps_begin steps step s taken fits).0 run all dear
