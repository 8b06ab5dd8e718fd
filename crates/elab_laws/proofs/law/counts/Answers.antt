use Rattle.elab_laws.proofs.Always.{count, limit}
use Rattle.elab_laws.proofs.law.counts.Goals as goal

pub returns : goal.returns
returns c = record { counted = count; allowed = limit }
