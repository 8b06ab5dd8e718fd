use Rattle.rtl_front.proofs.Same.{one_fault}
use Rattle.rtl_front.proofs.law.one_fault.Goals as goal

pub returns : goal.returns
returns c = one_fault
