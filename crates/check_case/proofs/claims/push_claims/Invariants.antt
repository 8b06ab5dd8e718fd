use Rattle.std.proofs.Common.{ℕ, map, take}
use Rattle.rtl_flat.specs.Process.{action, task}
use Rattle.rtl_rule.specs.Parts.{within}
use Rattle.rtl_flat.specs.Flats.{flat}
use Rattle.check_found.specs.Gathered.{Gets}
use Rattle.check_case.specs.Claims.{IsFalse, claim_at}
use Rattle.check_case.proofs.claims.push_claims.Given as goal

abbrev pub invariant-loop-one : goal.invariant-loop-one
invariant-loop-one l =
    (p : ℕ) → Gets (IsFalse (flat l.design) l.claim) (claim_at (flat l.design) l.claim) (map (λ one. within (p, task l.process) (action one.now)) (take l.one-index l.one-items)) l.fn.found.items l.found.items
