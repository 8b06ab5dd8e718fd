use Rattle.elab_laws.proofs.Always.{body, turn}
use Rattle.elab_laws.proofs.law.bodies.Goals as goal

pub returns : goal.returns
returns c = record { in_turns = turn; lawful = body }
