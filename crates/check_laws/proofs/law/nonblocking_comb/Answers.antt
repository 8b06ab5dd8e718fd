use Rattle.check_laws.proofs.Designs.{nonblocking_comb}
use Rattle.check_laws.proofs.law.nonblocking_comb.Goals as goal

pub returns : goal.returns
returns c = nonblocking_comb
