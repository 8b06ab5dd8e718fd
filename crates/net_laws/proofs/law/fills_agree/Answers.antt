use Rattle.net_laws.proofs.Laws.{fills_agree}
use Rattle.net_laws.proofs.law.fills_agree.Goals as goal

pub returns : goal.returns
returns c = fills_agree
