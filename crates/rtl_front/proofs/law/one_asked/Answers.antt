use Rattle.rtl_front.proofs.Asked.{one_asked}
use Rattle.rtl_front.proofs.law.one_asked.Goals as goal

pub returns : goal.returns
returns c = one_asked
