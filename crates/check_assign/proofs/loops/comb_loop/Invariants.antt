use Rattle.std.proofs.Common.{[], ◌∷◌}
use Rattle.rtl_flat.specs.Flats.{flat}
use Rattle.rtl_rule.specs.Sites.{AreFindings}
use Rattle.check_loops.specs.check_found.Gathered.{sites_below}
use Rattle.check_assign.specs.Assigned.{IsCombLoop, comb_loop_at}
use Rattle.check_assign.proofs.loops.comb_loop.Given as goal

abbrev pub invariant-loop-number : goal.invariant-loop-number
invariant-loop-number l =
    AreFindings (IsCombLoop (flat l.scans.design.now)) (comb_loop_at (flat l.scans.design.now)) (sites_below (λ does. does ∷ []) (flat l.scans.design.now) l.number) l.found.items
