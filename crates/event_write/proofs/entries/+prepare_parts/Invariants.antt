use Rattle.std.proofs.Common.{length}
use Rattle.event_write.proofs.entries.+prepare_parts.Given as goal

abbrev pub decreases-prepare_parts : goal.decreases-prepare_parts
decreases-prepare_parts l = length l.parts.now
