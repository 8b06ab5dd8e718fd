use Rattle.demo_laws.proofs.Firsts.{one_first}
use Rattle.demo_laws.proofs.law.one_first.Goals as goal

pub returns : goal.returns
returns c = one_first
