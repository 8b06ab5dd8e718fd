use Rattle.elab_laws.proofs.Always.{comb, edge}
use Rattle.elab_laws.proofs.law.always.Goals as goal

pub returns : goal.returns
returns c = record { without_edges = comb; with_an_edge = edge }
