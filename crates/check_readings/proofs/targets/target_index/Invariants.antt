use Rattle.rtl_flat.specs.Flats.{flat}
use Rattle.rtl_rule.specs.Sites.{AreFindings}
use Rattle.check_found.specs.Gathered.{sites_below}
use Rattle.check_readings.specs.Readings.{IsTargetIndex, joined, target_index_at}
use Rattle.check_readings.proofs.targets.target_index.Given as goal

abbrev pub invariant-loop-process : goal.invariant-loop-process
invariant-loop-process l =
    AreFindings IsTargetIndex target_index_at (sites_below joined (flat l.design) l.process-index) l.found.items
