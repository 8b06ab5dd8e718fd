use Rattle.unknown_laws.proofs.Registers.{registers_reset}
use Rattle.unknown_laws.proofs.law.registers_reset.Goals as goal

pub returns : goal.returns
returns c = registers_reset
