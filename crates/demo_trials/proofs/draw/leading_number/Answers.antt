use Rattle.std.proofs.Common.{rules}
use Rattle.demo_trials.specs.Draws.{leading_number}
use Rattle.demo_trials.proofs.draw.leading_number.Goals as goal

pub returns : goal.returns
unfolding leading_number
returns c = search rules
