use Rattle.rtl_parse.proofs.OneCause.{one_cause}
use Rattle.rtl_parse.proofs.law.one_cause.Goals as goal

pub returns : goal.returns
returns c = one_cause
