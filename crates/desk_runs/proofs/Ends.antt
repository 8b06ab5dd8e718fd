-- The events of a step end: nothing is left to be taken, or what is costs too much.
use Rattle.std.proofs.Common.{◌≡◌, ◌≢◌, ℕ, zero, suc, ◌+◌, ◌-◌, ◌<◌, ◌≤◌, List, [], ◌∷◌, length, Option, None, Some, ◌⊎◌, inl, inr, refl, ap, arith}
use Rattle.std.proofs.lemmas.Bool.{cases_lt}
use Rattle.rtl_flat.specs.Process.{Doing}
use Rattle.event_model.specs.declared.policy.Policy.{Policy}
use Rattle.event_model.specs.Order.{active, ready, ready_where}
use Rattle.event_model.specs.Policies.{Here, IsDone, IsTooDear, Next, PolicyRun, chosen, cost, run_cost}
use Rattle.event_model.specs.Queue.{State, Event, Input, Evaluate, Update, Run, Delayed, Activate, IsThere, after, after_delayed, doing_at, write, write_all}
use Rattle.rtl_flat.specs.Flats.{Flat}
use Rattle.event_model.specs.Writes.{Write}
use Rattle.event_model.proofs.Runs.{chosen_there}

-- ---- nonblocking updates grow fewer

-- what they weigh: twice where they aren't active yet
abbrev weight : State → ℕ
weight s = length s.delayed + length s.delayed + length s.activated

ready_weighs : (d : Flat) (s : State) (events : List Event) → weight (ready_where d s events) ≤ weight s
ready_weighs d s [] = omega arith
ready_weighs d s (event ∷ events) = omega arith

all_written : (d : Flat) (s : State) (ws : List Write) → ((write_all d s ws).activated ≡ s.activated) × ((write_all d s ws).delayed ≡ s.delayed)
all_written d s [] = (refl, refl)
all_written d s (w ∷ ws) = all_written d (write d s w) ws

delayed_weighs : (d : Flat) (s : State) (us : List (List Write)) → s.activated ≡ us → us ≢ [] → weight (after_delayed d s us) < weight s
delayed_weighs d s [] is some = absurd (some refl)
delayed_weighs d s (ws ∷ others) is some =
    let kept = all_written d (record s { activated = others }) ws in
    omega (arith, ap length kept.0, ap length kept.1, ap length is)

activate_weighs : (s : State) (us : List (List Write)) → s.delayed ≡ us → us ≢ [] → s.activated ≡ [] → length us < weight s
activate_weighs s [] is some none = absurd (some refl)
activate_weighs s (u ∷ us) is some none = omega (arith, ap length is, ap length none)

-- an event costs, or leaves fewer of them
abbrev Pays : Flat → State → Event → Type 0
Pays d s event = (1 ≤ cost d event) ⊎ (weight (ready d (after d s event)) < weight s)

run_pays : (o : Option Doing) → 1 ≤ run_cost o
run_pays None = omega arith
run_pays (Some does) = omega arith

pays : (d : Flat) (s : State) (event : Event) → IsThere d s event → Pays d s event
pays d s (Input i) there = inl (omega arith)
pays d s (Evaluate p) there = inl (omega arith)
pays d s (Update p) there = inl (omega arith)
pays d s (Run p) there = inl (run_pays (doing_at d p))
pays d s Delayed there =
    let made = after d s Delayed in
    inr (omega (arith, ready_weighs d made (active d made), delayed_weighs d s s.activated refl there))
pays d s Activate there =
    let made = after d s Activate in
    inr (omega (arith, ready_weighs d made (active d made), activate_weighs s s.delayed refl there.1 there.0.updates))

-- ---- a step ends

-- a run of a policy to where it finds nothing more, or what is next costs more than is left
pub record Ends (policy : Policy) (level : ℕ → Option ℕ) (d : Flat) (s : State) (all : ℕ) : Type 0 where
  pub last : State
  pub spent : ℕ
  pub left : ℕ
  pub sum : left + spent ≡ all
  pub run : PolicyRun policy level d s spent last
  pub end : IsDone policy level d last ⊎ IsTooDear policy level d last left

module _ (policy : Policy) (level : ℕ → Option ℕ) (d : Flat) (s : State) (all : ℕ) where
  abbrev EndsFrom : ℕ → ℕ → State → Type 0
  EndsFrom left spent t = left + spent ≡ all → PolicyRun policy level d s spent t → Ends policy level d s all

  -- what is chosen is paid, if enough is left
  one : (left spent : ℕ) (t : State) (o : Option Event) → chosen policy level d t ≡ o → left + spent ≡ all → PolicyRun policy level d s spent t
      → ((event : Event) → o ≡ Some event → chosen policy level d t ≡ Some event → cost d event ≤ left → Ends policy level d s all) → Ends policy level d s all
  one left spent t None is sum run more = record { last = t; spent = spent; left = left; sum = sum; run = run; end = inl is }
  one left spent t (Some event) is sum run more =
      elim (cases_lt left (cost d event)) [
        | inl short ↦ record { last = t; spent = spent; left = left; sum = sum; run = run; end = inr (record { event = event; next = is; dear = short }) }
        | inr paid ↦ more event refl is (omega (arith, paid))
      ]

  -- rounds of events that cost nothing
  rounds : (most : ℕ) → ((left spent : ℕ) (t : State) → left < most → EndsFrom left spent t) → (count left spent : ℕ) (t : State) → left ≤ most → weight t ≤ count → EndsFrom left spent t
  rounds most less zero left spent t within light sum run =
      one left spent t (chosen policy level d t) refl sum run (λ event same is paid.
      let next = Next s t spent event run is in
      elim (pays d t event (chosen_there policy level d t event is)) [
        | inl costs ↦ less (left - cost d event) (spent + cost d event) (ready d (after d t event)) (omega (arith, within, costs, paid)) (omega (arith, sum, paid)) next
        | inr lighter ↦ absurd (omega (arith, lighter, light))
      ])
  rounds most less (suc count) left spent t within light sum run =
      one left spent t (chosen policy level d t) refl sum run (λ event same is paid.
      let next = Next s t spent event run is in
      elim (pays d t event (chosen_there policy level d t event is)) [
        | inl costs ↦ less (left - cost d event) (spent + cost d event) (ready d (after d t event)) (omega (arith, within, costs, paid)) (omega (arith, sum, paid)) next
        | inr lighter ↦ rounds most less count (left - cost d event) (spent + cost d event) (ready d (after d t event)) (omega (arith, within)) (omega (arith, lighter, light)) (omega (arith, sum, paid)) next
      ])

  ends_from : (most left spent : ℕ) (t : State) → left ≤ most → EndsFrom left spent t
  ends_from zero left spent t within sum run =
      rounds zero (λ fewer paid u below. absurd (omega (arith, below))) (weight t) left spent t within (omega arith) sum run
  ends_from (suc most) left spent t within sum run =
      rounds (suc most) (λ fewer paid u below. ends_from most fewer paid u (omega (arith, below))) (weight t) left spent t within (omega arith) sum run

  -- each step ends
  pub ends : Ends policy level d s all
  ends = ends_from all all 0 s (omega arith) (omega arith) (Here s)
