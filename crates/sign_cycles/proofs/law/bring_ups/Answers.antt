use Rattle.sign_cycles.proofs.Lacking.{bring_ups}
use Rattle.sign_cycles.proofs.law.bring_ups.Goals as goal

pub returns : goal.returns
returns c = bring_ups
