-- What was written of a run is a front of what its steps show: the steps that are left end too.
use Rattle.std.proofs.Common.{◌+◌, ℕ, true, false, List, [], ◌∷◌, drop, length, map, take, Option, inl, inr, refl, subst}
use Rattle.std.proofs.lemmas.List.{take-append-drop}
use Rattle.rtl_flat.specs.declared.instance.Instance.{Instance}
use Rattle.event_model.specs.declared.policy.Policy.{Policy}
use Rattle.event_model.specs.Policies.{budget}
use Rattle.event_model.specs.Queue.{State, power_up}
use Rattle.rtl_flat.specs.Flats.{Flat, flat}
use Rattle.event_queue.specs.Sims.{level_of, state_of}
use Rattle.desk_steps.specs.Steps.{Setting, step}
use Rattle.desk_runs.specs.declared.run.Run.{Run as Running}
use Rattle.desk_runs.specs.Lines.{rested_line, unsettled_line}
use Rattle.desk_runs.specs.Progress.{IsAt, IsBegun, design_of, steps_of}
use Rattle.desk_runs.specs.Runs.{IsRun, Ended, Rested, Stopped, Shown, behind, offered}
use Rattle.desk_runs.proofs.Ends.{ends}

-- steps show some lines
pub record Shows (instances : List Instance) (policy : Policy) (level : ℕ → Option ℕ) (d : Flat) (number : ℕ) (s : State) (steps : List (List Setting)) : Type 0 where
  pub shown : Shown
  pub run : IsRun instances policy level d number s steps shown

pub shows_some : (instances : List Instance) (policy : Policy) (level : ℕ → Option ℕ) (d : Flat) (number : ℕ) (s : State) (steps : List (List Setting)) → Shows instances policy level d number s steps
shows_some instances policy level d number s [] = record { shown = record { settled = true; bytes = [] }; run = Ended number s }
shows_some instances policy level d number s (one ∷ others) =
    let end = ends policy level d (offered s one) (budget d) in
    elim end.end [
      | inl done ↦
          let more = shows_some instances policy level d (number + 1) end.last others in
          record {
            shown = behind (rested_line instances d.signals number end.last.value) more.shown;
            run = Rested number end.spent end.left s end.last one others more.shown end.sum end.run done more.run;
          }
      | inr dear ↦
          record {
            shown = record { settled = false; bytes = unsettled_line number };
            run = Stopped number end.spent end.left s end.last one others end.sum end.run dear;
          }
    ]

-- what a run wrote is a front of what its steps show
pub begun_of : (run : Running) (bytes : List ℕ) → IsAt run bytes → IsBegun (design_of run) (steps_of run) bytes
begun_of run bytes at =
    let design = design_of run in
    let policy = (steps_of run).policy in
    let all = map step (steps_of run).steps.items in
    let under = at.under in
    let others = shows_some design.instances.items policy (level_of run.sim) (flat design) (length (take run.before all) + 1) (state_of run.sim) (drop run.before all) in
    let whole = under.shows (drop run.before all) others.shown others.run in
    record {
      shown = behind bytes others.shown;
      is_shown = record {
        level = level_of run.sim;
        levels = under.levels;
        run = subst (λ (steps : List (List Setting)). IsRun design.instances.items policy (level_of run.sim) (flat design) 1 (power_up (flat design)) steps (behind bytes others.shown)) (take-append-drop run.before all) whole;
      };
      rest = others.shown.bytes;
      parts = refl;
    }
