use Rattle.vcd_laws.proofs.Verdicts.{one_fault}
use Rattle.vcd_laws.proofs.law.one_fault.Goals as goal

pub returns : goal.returns
returns c = one_fault
