use Rattle.std.proofs.Common.{length}
use Rattle.desk_steps.proofs.line.+behind.Given as goal

abbrev pub decreases-behind : goal.decreases-behind
decreases-behind l = length l.head.now
