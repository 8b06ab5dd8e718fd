use Rattle.demo_trials.proofs.Demos.{if_none, trial_stepless}
use Rattle.demo_trials.proofs.demo.read_demo.Goals as goal

pub returns-in_err-step-clause-malformed : goal.returns-in_err-step-clause-malformed
returns-in_err-step-clause-malformed c =
    let all = trial_stepless c.args.text.now c.in_ok-rest.rest.now c.in_ok-number.rest.now c.in_ok-number.number
    c.in_ok-rest.ensures c.in_ok-number.ensures.read c.in_ok-number.ensures.below c.in_err-step.ensures.malformed in
    if_none c.from_residual-in_err-step.result _ all
