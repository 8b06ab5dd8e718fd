-- The register of Register.antt, at an edge of its clock beside which `a` is given 0 where it was 1: in each order of the events
-- behind the activation q takes 1, what `a` was before.
use Rattle.std.proofs.Common.{◌≡◌, ◌≢◌, ◌∙◌, ℕ, zero, suc, false, true, List, [], ◌∷◌, length, None, Some, refl, sym, ap, subst, inl, inr, arith}
use Rattle.std.specs.List.{All, list_any}
use Rattle.std.proofs.lemmas.Bool.{false≢true}
use Rattle.std.proofs.lemmas.List.Elements.{All-cons, All-nil}
use Rattle.rtl_bits.specs.declared.Bit.TheVariants.{Zero, One}
use Rattle.rtl_flat.specs.Process.{Actions, Edge', Watched}
use Rattle.event_model.specs.Queue.{State, Event, Input, Run, Delayed, Activate, IsAtRest, after, doing_at, run}
use Rattle.net_model.specs.Control.{IsClockOrReset, IsUnclocked, waits_for}
use Rattle.net_model.specs.Gates.{IsDataInput, IsGateInput}
use Rattle.net_model.specs.Cycle.{Setting}
use Rattle.net_model.specs.Lawful.{AreLawfulSteps, SetsData}
use Rattle.net_model.specs.Numbers.{bit}
use Rattle.event_edges.specs.Moves.{Activated, Give, Move, Take, move_all}
use Rattle.sign_cycles.specs.Agree.{after_offer}
use Rattle.sign_cycles.specs.Beside.{Beside, IsNextBeside, in_turn}
use Rattle.sign_cycles.proofs.Register.{all_wait, asked, body, design, first, itself, lawful, list, low, no_latch, none_assigned, none_offered, ran, rises, set_to}

-- ---- `a` is a data input

own_events : (p : ℕ) (events : List Watched) (other : Actions) → doing_at design p ≡ Some (Edge' events other) → events ≡ list
own_events zero events other does = let same : Some (Edge' list body) ≡ Some (Edge' events other) = does in cc
own_events (suc p) events other does = absurd (cc)

no_clock : IsClockOrReset design 2 → ⊥
no_clock clock =
    let events = own_events clock.edges.process clock.edges.events clock.edges.body clock.edges.does in
    let waits = subst (λ (all : List Watched). list_any (waits_for clock.signal) all ≡ true) events clock.edges.waits in
    false≢true (subst (λ (i : ℕ). list_any (waits_for i) list ≡ true) (sym (itself 2 clock.signal clock.reached)) waits)

unclocked : IsUnclocked design 2
unclocked = record { input = refl; no_clock = no_clock }

no_gate : IsGateInput design 2 → ⊥
no_gate gate = no_latch gate.process gate.gate gate.admitted

data_input : IsDataInput design 2
data_input = record { input = refl; no_control = λ control. elim control [ inl clock ↦ no_clock clock | inr gate ↦ no_gate gate ] }

abbrev falls : Setting
falls = set_to 2 Zero

lawful_step : AreLawfulSteps design first (in_turn (Beside rises (falls ∷ []) ∷ []))
lawful_step = (
  lawful.0,
  (All-cons (SetsData design) falls [] (record { data_input = data_input; can_be = record { wide = refl; known = refl } }) (All-nil (SetsData design)), tt),
)

-- ---- two ways

abbrev early : List Event
early = Input 0 ∷ Run 0 ∷ []

no_activation : All (λ (event : Event). event ≢ Activate) early
no_activation =
    All-cons (λ (event : Event). event ≢ Activate) (Input 0) (Run 0 ∷ []) (λ h. cc)
    (All-cons (λ (event : Event). event ≢ Activate) (Run 0) [] (λ h. cc) (All-nil (λ (event : Event). event ≢ Activate)))

abbrev active : State
active = after design ran Activate

-- the new value comes before the register is written
abbrev sooner : List Move
sooner = Give ((2, Zero ∷ []) ∷ []) ∷ Take (Input 2) ∷ Take Delayed ∷ []

-- and behind it
abbrev later : List Move
later = Take Delayed ∷ Give ((2, Zero ∷ []) ∷ []) ∷ Take (Input 2) ∷ []

shows_old : bit (move_all design active sooner).value 3 0 ≡ One
shows_old = refl

shows_old_too : bit (move_all design active later).value 3 0 ≡ One
shows_old_too = refl

shows_new : bit (move_all design active sooner).value 2 0 ≡ Zero
shows_new = refl

rests : (t : State) → t.offered 0 ≡ None → t.offered 1 ≡ None → t.offered 2 ≡ None → t.woken 0 ≡ false → t.activated ≡ [] → t.delayed ≡ [] → IsAtRest design t
rests t clk rst a woken activated delayed =
    record {
      no_active = record {
        inputs = none_offered t.offered clk rst a;
        processes = all_wait t.woken woken;
        drivers = λ p is. absurd (false≢true (sym (none_assigned p) ∙ is));
        updates = activated;
      };
      no_delayed = delayed;
    }

by_sooner : IsNextBeside design low rises (falls ∷ []) (move_all design active sooner)
by_sooner =
    record {
      way = record {
        early = early;
        can_early = ((refl, refl), ((refl, refl), tt));
        before = no_activation;
        still = asked;
        next = active;
        activated = Activated (λ h. absurd (omega (arith, ap length h)));
        late = sooner;
        can_late = ((unclocked, refl, tt), ((refl, refl), ((λ h. absurd (omega (arith, ap length h))), tt)));
        leads = refl;
      };
      gives = refl;
      rest = rests (move_all design active sooner) refl refl refl refl refl refl;
    }

by_later : IsNextBeside design low rises (falls ∷ []) (move_all design active later)
by_later =
    record {
      way = record {
        early = early;
        can_early = ((refl, refl), ((refl, refl), tt));
        before = no_activation;
        still = asked;
        next = active;
        activated = Activated (λ h. absurd (omega (arith, ap length h)));
        late = later;
        can_late = ((λ h. absurd (omega (arith, ap length h))), ((unclocked, refl, tt), ((refl, refl), tt)));
        leads = refl;
      };
      gives = refl;
      rest = rests (move_all design active later) refl refl refl refl refl refl;
    }

-- ---- a race, which is no such way

-- where data are given while the edge is still active, as by a blocking assignment at the edge, q can take the new value
abbrev raced : State
raced = run design (after_offer low (rises ∷ falls ∷ [])) (Input 2 ∷ Input 0 ∷ Run 0 ∷ Activate ∷ Delayed ∷ [])

shows_race : bit raced.value 3 0 ≡ Zero
shows_race = refl
