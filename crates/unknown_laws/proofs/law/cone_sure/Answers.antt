use Rattle.unknown_laws.proofs.Inputs.{cone_sure}
use Rattle.unknown_laws.proofs.law.cone_sure.Goals as goal

pub returns : goal.returns
returns c = cone_sure
