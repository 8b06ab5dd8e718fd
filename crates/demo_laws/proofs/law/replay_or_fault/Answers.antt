use Rattle.demo_laws.proofs.Replays.{no_fault}
use Rattle.demo_laws.proofs.law.replay_or_fault.Goals as goal

pub returns : goal.returns
returns c = no_fault
