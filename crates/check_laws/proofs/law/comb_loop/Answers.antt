use Rattle.check_laws.proofs.Designs.{comb_loop}
use Rattle.check_laws.proofs.law.comb_loop.Goals as goal

pub returns : goal.returns
returns c = comb_loop
