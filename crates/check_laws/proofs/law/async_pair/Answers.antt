use Rattle.check_laws.proofs.Clocks.{async_pair}
use Rattle.check_laws.proofs.law.async_pair.Goals as goal

pub returns : goal.returns
returns c = async_pair
