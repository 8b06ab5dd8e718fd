-- A design without findings of the first grade serves benches.
use Rattle.std.proofs.Common.{◌≡◌, ◌∙◌, ◌++◌, ℕ, List, [], ◌∷◌, refl, sym, ap}
use Rattle.std.specs.List.{All}
use Rattle.std.proofs.lemmas.List.Elements.{All-cons, All-head, All-nil, All-tail}
use Rattle.rtl_bits.specs.declared.Bit.{Bit}
use Rattle.rtl_rule.specs.declared.finding.Finding.{Finding}
use Rattle.event_model.specs.Queue.{State, Event, Activate, CanRun, HasNoActive, after, offer, run}
use Rattle.rtl_flat.specs.Flats.{Flat, Parts}
use Rattle.event_model.specs.Writes.{Values, Write}
use Rattle.check_all.specs.Findings.{AreAllFindings, IsClean}
use Rattle.check_laws.proofs.event_settling_proofs.Conditions.{rules_settle}
use Rattle.check_laws.proofs.event_settling_proofs.Ends.{steps_start}
use Rattle.check_laws.specs.event_laws.Steady.{AreLawful}
use Rattle.check_laws.specs.event_settling.Ending.{ComesToRest, RunsEnd}
use Rattle.net_model.specs.declared.fill.Fill.{Fill}
use Rattle.net_model.specs.Control.{InClockCone}
use Rattle.net_model.specs.Cycle.{AreChains, Chain, Setting, Step, settings}
use Rattle.net_model.specs.Lawful.{AreLawfulSteps, IsLawfulStep, IsSetting, SetsData, TurnsControl}
use Rattle.sign_cycles.specs.event_edges.Moves.{Activated, CanMove, Give, IsActivated, IsBeside, Move, NoneThere, Take, gifts, move_all}
use Rattle.sign_cycles.specs.event_edges.Quiet.{SetData}
use Rattle.sign_cycles.specs.event_edges.Synchronous.{IsSynchronous}
use Rattle.sign_cycles.specs.Agree.{IsNext, IsSettledKnown, after_offer}
use Rattle.sign_cycles.specs.Beside.{AreBenchRuns, BenchStep, Beside, IsBenchNext, IsNextBeside, Plain, TurnsClock, TurnsLead, in_turn, offers}
use Rattle.sign_cycles.specs.Formed.{IsCleanClocked}
use Rattle.sign_cycles.proofs.Alone.{steps_alone}
use Rattle.sign_cycles.proofs.Beside.{beside_follows, benches_agree, one_step}
use Rattle.sign_cycles.proofs.DataSteps.{set_data}
use Rattle.sign_cycles.proofs.Steps.{steps_follow, turns_follow}
use Rattle.sign_cycles.proofs.Unfired.{unfired_agrees}
use Rattle.check_clean.specs.Benches.{BenchesByRules, BesideEnds, ComesToActivation, EndsBeside, IsShownBeside}
use Rattle.check_clean.proofs.Beside.{IsOther, ends_beside}
use Rattle.check_clean.proofs.Clean.{clean}
use Rattle.check_clean.proofs.Depths.{are_levels, levels}
use Rattle.check_clean.proofs.Runs.{ends, settles}
use Rattle.check_clean.proofs.Starts.{fits, settled_reached, step_set}
use Rattle.check_all.proofs.Without.{no_finding}

-- ---- events as moves

abbrev takes : List Event → List Move
takes [] = []
takes (event ∷ events) = Take event ∷ takes events

module _ (d : Flat) where
  can_take : (s : State) (events : List Event) → CanRun d s events → CanMove d s (takes events)
  can_take s [] can = tt
  can_take s (event ∷ events) can = (can.0, can_take (after d s event) events can.1)

  take_all : (s : State) (events : List Event) → move_all d s (takes events) ≡ run d s events
  take_all s [] = refl
  take_all s (event ∷ events) = take_all (after d s event) events

no_gifts : (events : List Event) → gifts (takes events) ≡ []
no_gifts [] = refl
no_gifts (event ∷ events) = no_gifts events

append_none : (step : List (ℕ × List Bit)) → step ++ [] ≡ step
append_none [] = refl
append_none (one ∷ step) = ap (λ (others : List (ℕ × List Bit)). one ∷ others) (append_none step)

-- updates become active where there are any
activation : (d : Flat) (s : State) (updates : List (List Write)) → s.delayed ≡ updates → (next : State) × IsActivated d s next
activation d s [] none = (s, NoneThere none)
activation d s (update ∷ updates) some =
    (after d s Activate, Activated (λ none. let no : update ∷ updates ≡ [] = sym some ∙ none in cc))

-- ---- states to which steps lead

module _ (d : Flat) (chains : ℕ → Chain) (level : ℕ → ℕ) (clean : IsCleanClocked d chains level) (f : Fill) (end : RunsEnd d) (beside : BesideEnds d) where
  -- by a step without data beside it
  module _ (s : State) (n : Values) (known : IsSettledKnown d chains f s n) where
    next_alone : (all : List Setting) → All (IsSetting d) all → (t : State) × IsNext d s all t
    next_alone all set =
        let rest = (end s (offers all) (settled_reached d chains f s n known) (fits d all set)).further [] tt in
        (run d (after_offer s all) rest.events, record { reaches = record { events = rest.events; can = rest.can; leads = refl }; rest = rest.rest })

    module _ (turn : Setting) (turns : TurnsControl d n turn) where
      one_set : All (IsSetting d) (turn ∷ [])
      one_set = All-cons (IsSetting d) turn [] turns.can_be (All-nil (IsSetting d))

      -- and with data, which are given as soon as they can be
      module _ (given : List Setting) (set : All (SetsData d) given) where
        how : EndsBeside d (after_offer s (turn ∷ []))
        how = beside s (offers (turn ∷ [])) (settled_reached d chains f s n known) (fits d (turn ∷ []) one_set)

        early : ComesToActivation d (after_offer s (turn ∷ []))
        early = how.activates [] tt (All-nil IsOther)

        abbrev still : State
        still = run d (after_offer s (turn ∷ [])) early.events

        next : (u : State) × IsActivated d still u
        next = activation d still still.delayed refl

        data_set : SetData d (offers given)
        data_set = set_data d given set

        begun : IsBeside d (after_offer s (turn ∷ [])) (offer next.0 (offers given))
        begun =
            record {
              early = early.events;
              can_early = early.can;
              before = early.before;
              still = early.still;
              next = next.0;
              activated = next.1;
              late = Give (offers given) ∷ [];
              can_late = (data_set, tt);
              leads = refl;
            }

        rest : ComesToRest d (offer next.0 (offers given))
        rest = how.further (offer next.0 (offers given)) begun

        next_beside : (t : State) × IsNextBeside d s turn given t
        next_beside = (
          run d (offer next.0 (offers given)) rest.events,
          record {
            way = record {
              early = early.events;
              can_early = early.can;
              before = early.before;
              still = early.still;
              next = next.0;
              activated = next.1;
              late = Give (offers given) ∷ takes rest.events;
              can_late = (data_set, can_take d (offer next.0 (offers given)) rest.events rest.can);
              leads = take_all d (offer next.0 (offers given)) rest.events;
            };
            gives = ap (λ (others : List (ℕ × List Bit)). offers given ++ others) (no_gifts rest.events) ∙ append_none (offers given);
            rest = rest.rest;
          },
        )

  lead : TurnsLead d chains f
  lead s n known turn clock turns =
      let next = next_alone s n known (turn ∷ []) (one_set s n known turn turns) in
      let one = turns_follow d chains level clean f s n known turn clock turns next.0 next.1 in
      (one.next, one.follows)

  some_next : (s : State) (n : Values) → IsSettledKnown d chains f s n → (step : BenchStep) (steps : List BenchStep) → AreLawfulSteps d n (in_turn (step ∷ steps)) → (t : State) × IsBenchNext d s step t
  some_next s n known (Plain step) steps lawful =
      next_alone s n known (settings step) (step_set d n step lawful.0)
  some_next s n known (Beside turn given) steps lawful =
      next_beside s n known turn lawful.0 given lawful.1.0

  runs : (s : State) (n : Values) → IsSettledKnown d chains f s n → (steps : List BenchStep) → AreLawfulSteps d n (in_turn steps) → All (TurnsClock d) steps → (states : List State) × AreBenchRuns d s steps states
  runs s n known [] lawful clocks = ([], tt)
  runs s n known (step ∷ steps) lawful clocks =
      let next = some_next s n known step steps lawful in
      let it = one_step d chains f (steps_follow d chains level clean f) (steps_alone d chains level clean f) (beside_follows d chains level clean f) lead s n known step steps lawful (All-head (TurnsClock d) step steps clocks) next.0 next.1 in
      let others = runs next.0 it.0 it.1 steps it.2 (All-tail (TurnsClock d) step steps clocks) in
      (next.0 ∷ others.0, (next.1, others.1))

  shown : (s : State) (n : Values) → IsSettledKnown d chains f s n → (steps : List BenchStep) → AreLawfulSteps d n (in_turn steps) → All (TurnsClock d) steps → IsShownBeside d chains f s n steps
  shown s n known steps lawful clocks =
      let it = runs s n known steps lawful clocks in
      record {
        states = it.0;
        runs = it.1;
        followed = (benches_agree d chains level clean f lead).agrees s n known steps lawful clocks it.0 it.1;
      }

-- ---- clean designs

module _ (d : Parts) (lawful : AreLawful d.flat) (findings : List Finding) (are : AreAllFindings d findings) (is : IsClean findings) where
  beside_ends : IsSynchronous d.flat → BesideEnds d.flat
  beside_ends sync s step reached fit =
      let loops = (no_finding d findings are is).a6 in
      let level = levels d.flat lawful loops in
      let settling = rules_settle d.flat lawful level (settles d lawful findings are is level (are_levels d.flat lawful loops)) in
      ends_beside d.flat sync level settling (offer s step) (steps_start d.flat lawful s step reached fit)

pub benches : (d : Parts) → BenchesByRules d
benches d lawful marked findings are is =
    let design = clean d lawful marked findings are is in
    let end = ends d lawful findings are is in
    let beside = beside_ends d lawful findings are is (design.clean design.chains design.chained).synchronous in
    record {
      agree = λ choice chained fill.
          benches_agree d.flat choice design.level (design.clean choice chained) fill (lead d.flat choice design.level (design.clean choice chained) fill end beside);
      shown = λ choice chained fill. shown d.flat choice design.level (design.clean choice chained) fill end beside;
      ends = beside;
      unfired = λ choice chained. unfired_agrees d.flat choice design.level (design.clean choice chained);
    }
