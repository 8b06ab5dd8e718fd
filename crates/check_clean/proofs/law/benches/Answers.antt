use Rattle.check_clean.proofs.Benches.{benches}
use Rattle.check_clean.proofs.law.benches.Goals as goal

pub returns : goal.returns
returns c = benches
