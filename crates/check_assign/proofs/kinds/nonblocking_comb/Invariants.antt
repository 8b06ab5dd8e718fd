use Rattle.rtl_flat.specs.Flats.{flat}
use Rattle.rtl_rule.specs.Sites.{AreFindings}
use Rattle.check_loops.specs.check_found.Gathered.{signal_numbers, sites_below}
use Rattle.check_assign.specs.Assigned.{IsNonblockingComb, nonblocking_comb_at}
use Rattle.check_assign.proofs.kinds.nonblocking_comb.Given as goal

abbrev pub invariant-loop-process : goal.invariant-loop-process
invariant-loop-process l =
    AreFindings (IsNonblockingComb (flat l.design)) (nonblocking_comb_at (flat l.design)) (sites_below (signal_numbers (flat l.design)) (flat l.design) l.process-index) l.found.items
