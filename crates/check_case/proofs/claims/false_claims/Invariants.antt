use Rattle.rtl_rule.specs.Parts.{statements}
use Rattle.rtl_flat.specs.Flats.{flat}
use Rattle.rtl_rule.specs.Sites.{AreFindings}
use Rattle.check_found.specs.Gathered.{sites_below}
use Rattle.check_case.specs.Claims.{IsFalse, claim_at}
use Rattle.check_case.proofs.claims.false_claims.Given as goal

abbrev pub invariant-loop-process : goal.invariant-loop-process
invariant-loop-process l =
    AreFindings (IsFalse (flat l.design) l.claim) (claim_at (flat l.design) l.claim) (sites_below statements (flat l.design) l.process-index) l.found.items
