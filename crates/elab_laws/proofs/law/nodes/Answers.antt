use Rattle.elab_laws.proofs.Nodes.{counted}
use Rattle.elab_laws.proofs.law.nodes.Goals as goal

pub returns : goal.returns
returns c = counted
