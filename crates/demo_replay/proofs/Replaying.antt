-- A demonstration that is run again.
use Rattle.std.proofs.Common.{◌≡◌, ◌≤◌, ℕ, List, length, subst, sym}
use Rattle.std.specs.Prelude.{Err, IfErr, IsTrue, Ok, Result}
use Rattle.std.specs.Result.{IsErrAnd}
use Rattle.rtl_flat.specs.Flats.{flat}
use Rattle.event_model.specs.Queue.{is_input}
use Rattle.event_queue.specs.Sims.{state_of}
use Rattle.netlist_eval.proofs.net_start_proofs.Listed.{all_same}
use Rattle.netlist_eval.specs.Sims.{shown}
use Rattle.demo_told.specs.declared.demo.Demo.{Demo}
use Rattle.demo_told.specs.declared.demo.Shown.{Shown}
use Rattle.demo_trials.specs.Trials.{step_count}
use Rattle.demo_replay.specs.declared.fault.ReplayFault.{ReplayFault}
use Rattle.demo_replay.specs.declared.fault.ReplayFault.TheVariants as fault
use Rattle.demo_replay.specs.declared.run.Run.{Run}
use Rattle.demo_replay.specs.declared.setup.Setup.{Setup as Kept}
use Rattle.demo_replay.specs.Progress.{IsAfterSteps, IsAt, IsStepFault, moment_of, trial_of}
use Rattle.demo_replay.specs.Replays.{Gives, IsLegal, IsReplayFault, IsStep}
use Rattle.demo_replay.specs.Runs.{IsStuck, Moment}
use Rattle.demo_replay.specs.Tables.{IsOf, plain}
use Rattle.demo_replay.proofs.Going.{reached}
use Rattle.demo_replay.proofs.Setting.{setup_of}

-- an error that is passed on as it is
pub same_error : {A E : Type 0} (result : Result A E) (why : E) (P : E → Type 0) → IsErrAnd result (λ e. e ≡ why) → P why → IfErr result P
same_error (Ok value) why P same holds = absurd same
same_error (Err e) why P same holds = subst P (sym same) holds

-- a step of a trial is one for the inputs that are kept
pub step_there : (kept : Kept) → IsOf kept.design.now kept → (trial step : ℕ) → IsStep (flat kept.design.now) trial step → step ≤ step_count trial (length (plain kept).tops)
step_there kept is trial step there =
    subst (λ (l : List ℕ). step ≤ step_count trial (length l))
    (all_same (λ s. IsTrue (is_input (flat kept.design.now) s)) there.tops (plain kept).tops there.are_tops is.basis.tops) there.last

module _ (kept : Kept) (is : IsOf kept.design.now kept) (demo : Demo) (run : Run) (same : run.setup.now ≡ kept) (trial : trial_of run ≡ demo.trial) where
  -- the two values after the step
  pub gives : (moments : List Moment) → IsAt run moments → length moments ≡ demo.step → (values : Shown) → values.simulated ≡ (moment_of run.sim run.net).simulated demo.signal.0 → values.synthesised ≡ (moment_of run.sim run.net).synthesised demo.signal.0 → Gives (flat kept.design.now) demo values.simulated values.synthesised
  gives moments at count values simulated synthesised =
      let after = subst (λ (one : Kept). IsAfterSteps one demo.trial run.sim run.net run.taken moments) same
      (subst (λ (t : ℕ). IsAfterSteps run.setup.now t run.sim run.net run.taken moments) trial at) in
      record {
        setup = plain kept;
        is_setup = setup_of kept is;
        moments = moments;
        state = state_of run.sim;
        numbers = shown run.net;
        reaches = reached kept demo.trial run.taken run.sim run.net moments after;
        count = count;
        simulated_is = simulated;
        synthesised_is = synthesised;
      }

  -- why its steps aren't taken
  pub fault_told : IsLegal (flat kept.design.now) demo → (why : ReplayFault) → IsStepFault run demo.step why → IsReplayFault (flat kept.design.now) demo why
  fault_told legal (fault.Unsettled step) (moments, stuck, count, below) =
      let stuck' = subst (λ (one : Kept). IsStuck (flat one.design.now) (plain one) demo.trial moments) same
      (subst (λ (t : ℕ). IsStuck (flat run.setup.now.design.now) (plain run.setup.now) t moments) trial stuck) in
      (legal, record { setup = plain kept; is_setup = setup_of kept is; moments = moments; stuck = stuck'; count = count; before = below })
  fault_told legal fault.Memory h = h
  fault_told legal fault.NoNetlist h = absurd h
  fault_told legal (fault.Illegal part) h = absurd h
  fault_told legal (fault.Same value) h = absurd h
