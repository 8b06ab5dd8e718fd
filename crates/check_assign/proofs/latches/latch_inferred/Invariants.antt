use Rattle.rtl_flat.specs.Flats.{flat}
use Rattle.rtl_rule.specs.Sites.{AreFindings}
use Rattle.check_loops.specs.check_found.Gathered.{signal_numbers, sites_below}
use Rattle.check_assign.specs.Assigned.{IsLatchInferred, latch_inferred_at}
use Rattle.check_assign.proofs.latches.latch_inferred.Given as goal

abbrev pub invariant-loop-number : goal.invariant-loop-number
invariant-loop-number l =
    AreFindings (IsLatchInferred (flat l.scans.design.now)) latch_inferred_at (sites_below (signal_numbers (flat l.scans.design.now)) (flat l.scans.design.now) l.number) l.found.items
