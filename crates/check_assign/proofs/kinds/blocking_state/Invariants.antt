use Rattle.rtl_flat.specs.Flats.{flat}
use Rattle.rtl_rule.specs.Sites.{AreFindings}
use Rattle.check_loops.specs.check_found.Gathered.{signal_numbers, sites_below}
use Rattle.check_assign.specs.Assigned.{IsBlockingState, blocking_state_at}
use Rattle.check_assign.proofs.kinds.blocking_state.Given as goal

abbrev pub invariant-loop-process : goal.invariant-loop-process
invariant-loop-process l =
    AreFindings (IsBlockingState (flat l.scans.design.now)) (blocking_state_at (flat l.scans.design.now)) (sites_below (signal_numbers (flat l.scans.design.now)) (flat l.scans.design.now) l.process-index) l.found.items
