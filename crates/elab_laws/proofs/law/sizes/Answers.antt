use Rattle.elab_body.proofs.elab_scope_proofs.Law.{tree_is_sized}
use Rattle.elab_laws.proofs.law.sizes.Goals as goal

pub returns : goal.returns
returns c = tree_is_sized
