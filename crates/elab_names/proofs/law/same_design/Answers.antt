use Rattle.elab_names.proofs.Staying.{design_same}
use Rattle.elab_names.proofs.law.same_design.Goals as goal

pub returns : goal.returns
returns c = design_same
