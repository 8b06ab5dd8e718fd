use Rattle.check_laws.proofs.Temporaries.{blocking_state}
use Rattle.check_laws.proofs.law.blocking_state.Goals as goal

pub returns : goal.returns
returns c = blocking_state
