use Rattle.demo_clean.proofs.Unshown.{none_shown}
use Rattle.demo_clean.proofs.law.none_shown.Goals as goal

pub returns : goal.returns
returns c = none_shown
