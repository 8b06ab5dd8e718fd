use Rattle.event_laws.proofs.Steady.{lawful_processes}
use Rattle.event_laws.proofs.law.lawful_processes.Goals as goal

pub returns : goal.returns
returns c = lawful_processes
