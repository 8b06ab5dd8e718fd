use Rattle.std.proofs.Common.{length}
use Rattle.desk_report.proofs.value.+push_binary.Given as goal

abbrev pub decreases-push_binary : goal.decreases-push_binary
decreases-push_binary l = length l.value
