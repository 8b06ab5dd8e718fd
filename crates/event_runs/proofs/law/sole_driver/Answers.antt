use Rattle.event_runs.proofs.Laws.{sole_driver}
use Rattle.event_runs.proofs.law.sole_driver.Goals as goal

pub returns : goal.returns
returns c = sole_driver
