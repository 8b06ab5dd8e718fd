use Rattle.vcd_laws.proofs.Verdicts.{no_fault}
use Rattle.vcd_laws.proofs.law.verdict_or_fault.Goals as goal

pub returns : goal.returns
returns c = no_fault
