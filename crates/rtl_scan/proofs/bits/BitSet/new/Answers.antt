use Rattle.rtl_scan.proofs.Masks.{has_none}
use Rattle.rtl_scan.proofs.bits.BitSet.new.Goals as goal

pub returns : goal.returns
returns c = has_none c.new.result c.new.ensures.empty
