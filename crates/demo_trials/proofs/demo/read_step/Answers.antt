use Rattle.demo_trials.proofs.Demos.{if_none, step_unsigned, step_zero}
use Rattle.demo_trials.proofs.demo.read_step.Goals as goal

pub returns-then-step-eq0-clause-malformed : goal.returns-then-step-eq0-clause-malformed
returns-then-step-eq0-clause-malformed c =
    step_zero c.args.text.now c.in_ok-rest.rest.now c.in_ok-step.rest.now c.in_ok-step.step
    c.in_ok-rest.ensures c.in_ok-step.ensures.read c.in_ok-step.ensures.below c.if-step-eq0.true

pub returns-in_err-path-clause-malformed : goal.returns-in_err-path-clause-malformed
returns-in_err-path-clause-malformed c =
    let all = step_unsigned c.args.text.now c.in_ok-rest.rest.now c.in_ok-step.rest.now c.in_ok-step.step
    c.in_ok-rest.ensures c.in_ok-step.ensures.read c.in_ok-step.ensures.below c.in_err-path.ensures.malformed in
    if_none c.from_residual-in_err-path.result _ all
