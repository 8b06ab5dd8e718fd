use Rattle.elab_names.proofs.Staying.{files_same}
use Rattle.elab_names.proofs.law.same_files.Goals as goal

pub returns : goal.returns
returns c = files_same
