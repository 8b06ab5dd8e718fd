use Rattle.std.proofs.Common.{length}
use Rattle.elab_links.proofs.drivable.+meet.Given as goal

abbrev pub decreases-meet : goal.decreases-meet
decreases-meet l = length l.covers.now
