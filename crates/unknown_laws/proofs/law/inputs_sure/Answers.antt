use Rattle.unknown_laws.proofs.Inputs.{inputs_sure}
use Rattle.unknown_laws.proofs.law.inputs_sure.Goals as goal

pub returns : goal.returns
returns c = inputs_sure
