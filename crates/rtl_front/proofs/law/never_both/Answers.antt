use Rattle.rtl_front.proofs.Apart.{never_both}
use Rattle.rtl_front.proofs.law.never_both.Goals as goal

pub returns : goal.returns
returns c = never_both
