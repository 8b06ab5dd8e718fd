use Rattle.check_laws.proofs.Designs.{mixed_edges}
use Rattle.check_laws.proofs.law.mixed_edges.Goals as goal

pub returns : goal.returns
returns c = mixed_edges
