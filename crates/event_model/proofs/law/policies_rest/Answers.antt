use Rattle.event_model.proofs.Runs.{policy_ready, policy_rests}
use Rattle.event_model.proofs.law.policies_rest.Goals as goal

pub returns : goal.returns
returns c = λ policy level d s t spent r run done. policy_rests policy level d t (policy_ready policy level d s t spent r run) done
