use Rattle.elab_laws.proofs.Always.{events}
use Rattle.elab_laws.proofs.Lists.{list_lawful}
use Rattle.elab_laws.proofs.law.lists.Goals as goal

pub returns : goal.returns
returns c = record { without_edges = list_lawful; with_an_edge = events }
