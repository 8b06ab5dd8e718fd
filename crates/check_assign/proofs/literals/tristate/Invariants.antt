use Rattle.std.proofs.Common.{[], ◌∷◌}
use Rattle.rtl_flat.specs.Flats.{flat}
use Rattle.rtl_rule.specs.Sites.{AreFindings}
use Rattle.check_loops.specs.check_found.Gathered.{sites_below}
use Rattle.check_assign.specs.Assigned.{IsTristate, tristate_at}
use Rattle.check_assign.proofs.literals.tristate.Given as goal

abbrev pub invariant-loop-number : goal.invariant-loop-number
invariant-loop-number l =
    AreFindings IsTristate (tristate_at (flat l.design)) (sites_below (λ does. does ∷ []) (flat l.design) l.number) l.found.items
