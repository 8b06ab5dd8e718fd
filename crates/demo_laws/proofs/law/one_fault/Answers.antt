use Rattle.demo_laws.proofs.Replays.{one_fault}
use Rattle.demo_laws.proofs.law.one_fault.Goals as goal

pub returns : goal.returns
returns c = one_fault
