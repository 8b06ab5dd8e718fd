-- Every run of a design without findings of the first grade ends, so that states follow from steps.
use Rattle.std.proofs.Common.{ℕ, List, [], ◌∷◌, map, refl}
use Rattle.std.specs.List.{All}
use Rattle.std.proofs.lemmas.List.Elements.{All-cons, All-head, All-nil, All-tail}
use Rattle.rtl_bits.specs.declared.Bit.{Bit}
use Rattle.net_model.specs.Cycle.{Setting, Step, settings}
use Rattle.net_model.specs.Lawful.{AreLawfulSteps, IsSetting}
use Rattle.net_model.specs.Cycle.{given_after}
use Rattle.event_model.specs.Queue.{State, offer, power_up, run}
use Rattle.rtl_flat.specs.Flats.{Flat, Parts}
use Rattle.event_model.specs.Writes.{Values}
use Rattle.check_laws.specs.event_settling.Settling.{Fits}
use Rattle.check_laws.specs.event_settling.Ending.{AllEnd, IsReached, PowerUp, Stepped}
use Rattle.sign_cycles.specs.Agree.{after_offer}
use Rattle.sign_cycles.specs.BringUp.{SetsInput}
use Rattle.check_clean.specs.Ending.{FulfilledByRules, HasRuns, HasRunsByRules}
use Rattle.check_clean.proofs.Promise.{promised}
use Rattle.check_clean.proofs.Runs.{ends}
use Rattle.check_clean.proofs.Starts.{fits, settled_reached, step_set}

-- ---- states follow from steps

module _ (d : Flat) where
  has_runs : ((s : State) (step : List (ℕ × List Bit)) → IsReached d s → Fits d step → AllEnd d (offer s step)) → HasRuns d
  has_runs end s reached [] set = ([], tt)
  has_runs end s reached (step ∷ steps) set =
      let fit = fits d step (All-head (All (IsSetting d)) step steps set) in
      let rest = (end s (map (λ (setting : Setting). (setting.input, setting.number)) step) reached fit).further [] tt in
      let t : State = run d (after_offer s step) rest.events in
      let others = has_runs end t (Stepped s t (map (λ (setting : Setting). (setting.input, setting.number)) step) rest.events reached fit rest.can refl rest.rest)
      steps (All-tail (All (IsSetting d)) step steps set) in
      (t ∷ others.0, (record { reaches = record { events = rest.events; can = rest.can; leads = refl }; rest = rest.rest }, others.1))

  -- what lawful steps set
  steps_set : (given : Values) (steps : List Step) → AreLawfulSteps d given steps → All (All (IsSetting d)) (map settings steps)
  steps_set given [] set = All-nil (All (IsSetting d))
  steps_set given (step ∷ steps) set =
      All-cons (All (IsSetting d)) (settings step) (map settings steps) (step_set d given step set.0) (steps_set (given_after given (settings step)) steps set.1)

  -- and what bring-ups set
  input_set : (all : List Setting) → All (SetsInput d) all → All (IsSetting d) all
  input_set [] set = All-nil (IsSetting d)
  input_set (setting ∷ all) set =
      All-cons (IsSetting d) setting all (All-head (SetsInput d) setting all set).can_be (input_set all (All-tail (SetsInput d) setting all set))

  inputs_set : (steps : List (List Setting)) → All (All (SetsInput d)) steps → All (All (IsSetting d)) steps
  inputs_set [] set = All-nil (All (IsSetting d))
  inputs_set (step ∷ steps) set =
      All-cons (All (IsSetting d)) step steps (input_set step (All-head (All (SetsInput d)) step steps set))
      (inputs_set steps (All-tail (All (SetsInput d)) step steps set))

pub states_follow : (d : Parts) → HasRunsByRules d
states_follow d lawful findings are is = has_runs d.flat (ends d lawful findings are is)

pub fulfilled : (d : Parts) → FulfilledByRules d
fulfilled d lawful marked findings are is chains chained fill =
    let whole = promised d lawful marked findings are is in
    let follow = states_follow d lawful findings are is in
    record {
      shown = λ s n settled steps lawful'.
          let it = follow s (settled_reached d.flat chains fill s n settled) (map settings steps) (steps_set d.flat n steps lawful') in
          record {
            states = it.0;
            runs = it.1;
            followed = (whole.agrees chains chained fill).agrees s n settled steps lawful' it.0 it.1;
          };
      brought_up = λ resets steps up.
          let it = follow (power_up d.flat) PowerUp steps (inputs_set d.flat steps up.settings) in
          let settled = (whole.brought_up chains chained resets fill).settles steps up it.0 it.1 in
          record { states = it.0; runs = it.1; numbers = settled.0; settled = settled.1 };
    }
