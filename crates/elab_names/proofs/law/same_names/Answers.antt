use Rattle.elab_names.proofs.Extracting.{looked_up_same}
use Rattle.elab_names.proofs.law.same_names.Goals as goal

pub returns : goal.returns
returns c = looked_up_same
