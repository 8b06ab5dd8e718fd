use Rattle.check_laws.proofs.Designs.{comb_loop_alone}
use Rattle.check_laws.proofs.law.comb_loop_alone.Goals as goal

pub returns : goal.returns
returns c = comb_loop_alone
