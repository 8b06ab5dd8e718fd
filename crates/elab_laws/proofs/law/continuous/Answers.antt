use Rattle.elab_laws.proofs.Assignments as lemma
use Rattle.elab_laws.proofs.law.continuous.Goals as goal

pub returns : goal.returns
returns c = lemma.continuous
