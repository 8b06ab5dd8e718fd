use Rattle.rtl_text.proofs.Unique.{one_split}
use Rattle.rtl_text.proofs.law.one_split.Goals as goal

pub returns : goal.returns
returns c = one_split
