use Rattle.std.proofs.Common.{◌≡◌, ◌∙◌, ◌≤◌, ℕ, length, subst, sym}
use Rattle.rtl_flat.specs.Flats.{flat}
use Rattle.demo_told.proofs.Same.{differ_is, same_by}
use Rattle.demo_trials.specs.Trials.{step_count}
use Rattle.demo_replay.specs.declared.setup.Setup.{Setup as Kept}
use Rattle.demo_replay.specs.Progress.{trial_of}
use Rattle.demo_replay.specs.Replays.{Gives, IsReplayFault}
use Rattle.demo_replay.specs.Tables.{plain}
use Rattle.demo_replay.proofs.Replaying.{fault_told, gives, same_error, step_there}
use Rattle.demo_replay.proofs.replays.shown_by.Goals as goal

pub take_steps-requires-clause-there : goal.take_steps-requires-clause-there
take_steps-requires-clause-there c =
    let kept = c.args.setup.now in
    let demo = c.args.demo.now in
    let run = c.in_ok-run.run' in
    let same : run.setup.now ≡ kept = c.in_ok-run.ensures.setup in
    let trial : trial_of run ≡ c.args.trial.number = c.in_ok-run.ensures.trial in
    subst (λ (one : Kept). demo.step ≤ step_count (trial_of run) (length (plain one).tops)) (sym same)
    (subst (λ (t : ℕ). demo.step ≤ step_count t (length (plain kept).tops)) (sym (trial ∙ c.requires.trial)) (step_there kept c.requires.is_of demo.trial demo.step c.requires.legal.step))

pub returns-in_err-take_steps-clause-fault : goal.returns-in_err-take_steps-clause-fault
returns-in_err-take_steps-clause-fault c =
    let kept = c.args.setup.now in
    let run = c.in_ok-run.run' in
    let same : run.setup.now ≡ kept = c.in_ok-run.ensures.setup in
    let trial : trial_of run ≡ c.args.trial.number = c.in_ok-run.ensures.trial in
    let why = c.in_err-take_steps.field-0.0 in
    same_error c.from_residual-in_err-take_steps.result why (IsReplayFault (flat kept.design.now) c.args.demo.now) c.from_residual-in_err-take_steps.ensures.1
    (fault_told kept c.requires.is_of c.args.demo.now run same (trial ∙ c.requires.trial) c.requires.legal why c.in_err-take_steps.ensures.fault)

pub returns-then-differs-clause-shown : goal.returns-then-differs-clause-shown
returns-then-differs-clause-shown c =
    let kept = c.args.setup.now in
    let run = c.in_ok-run.run' in
    let now = c.take_steps.new.run in
    let same : run.setup.now ≡ kept = c.in_ok-run.ensures.setup in
    let trial : trial_of run ≡ c.args.trial.number = c.in_ok-run.ensures.trial in
    let (moments, at, count) = c.in_ok-take_steps.ensures.taken in
    let values = c.shown-shown.result in
    record {
      legal = c.requires.legal;
      gives = gives kept c.requires.is_of c.args.demo.now now (c.take_steps.ensures.setup ∙ same) (c.take_steps.ensures.trial ∙ (trial ∙ c.requires.trial)) moments at count values c.shown-shown.ensures.simulated c.shown-shown.ensures.synthesised;
      differ = differ_is values.simulated values.synthesised (sym c.differs.ensures ∙ c.if-differs.true);
    }

pub returns-clause-fault : goal.returns-clause-fault
returns-clause-fault c =
    let kept = c.args.setup.now in
    let demo = c.args.demo.now in
    let run = c.in_ok-run.run' in
    let now = c.take_steps.new.run in
    let same : run.setup.now ≡ kept = c.in_ok-run.ensures.setup in
    let trial : trial_of run ≡ c.args.trial.number = c.in_ok-run.ensures.trial in
    let (moments, at, count) = c.in_ok-take_steps.ensures.taken in
    let values = c.shown-shown.result in
    let both = gives kept c.requires.is_of demo now (c.take_steps.ensures.setup ∙ same) (c.take_steps.ensures.trial ∙ (trial ∙ c.requires.trial)) moments at count values c.shown-shown.ensures.simulated c.shown-shown.ensures.synthesised in
    (c.requires.legal, subst (Gives (flat kept.design.now) demo values.simulated) (sym (same_by values.simulated values.synthesised (sym c.differs.ensures ∙ c.if-differs.false))) both)
