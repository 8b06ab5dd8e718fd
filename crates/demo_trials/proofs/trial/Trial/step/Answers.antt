use Rattle.demo_trials.proofs.Fitting.{made_meets, made_known}
use Rattle.demo_trials.proofs.trial.Trial.step.Goals as goal

pub returns-clause-fitting : goal.returns-clause-fitting
returns-clause-fitting c =
    made_meets c.args.self.number c.args.step c.args.inputs.now c.settings_of.result c.settings_of.ensures

pub returns-clause-known : goal.returns-clause-known
returns-clause-known c =
    made_known c.args.self.number c.args.step c.args.inputs.now c.settings_of.result c.settings_of.ensures
