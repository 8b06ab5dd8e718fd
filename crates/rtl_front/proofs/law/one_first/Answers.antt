use Rattle.rtl_front.proofs.Apart.{one_first}
use Rattle.rtl_front.proofs.law.one_first.Goals as goal

pub returns : goal.returns
returns c = one_first
