use Rattle.vcd_laws.proofs.Verdicts.{one_verdict}
use Rattle.vcd_laws.proofs.law.one_verdict.Goals as goal

pub returns : goal.returns
returns c = one_verdict
