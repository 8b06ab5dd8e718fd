use Rattle.sign_cycles.proofs.Beside.{benches_agree}
use Rattle.sign_cycles.proofs.law.benches_agree.Goals as goal

pub returns : goal.returns
returns c = benches_agree
