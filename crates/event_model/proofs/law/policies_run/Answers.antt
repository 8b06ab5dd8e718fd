use Rattle.event_model.proofs.Runs.{policy_reaches}
use Rattle.event_model.proofs.law.policies_run.Goals as goal

pub returns : goal.returns
returns c = policy_reaches
