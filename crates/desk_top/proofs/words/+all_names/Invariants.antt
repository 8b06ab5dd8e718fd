use Rattle.std.proofs.Common.{length}
use Rattle.desk_top.proofs.words.+all_names.Given as goal

abbrev pub decreases-all_names : goal.decreases-all_names
decreases-all_names l = length l.files.now
