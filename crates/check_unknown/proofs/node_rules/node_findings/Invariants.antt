use Rattle.rtl_flat.specs.Flats.{flat}
use Rattle.check_unknown.proofs.NodeRules.{HasBelow}
use Rattle.check_unknown.proofs.node_rules.node_findings.Given as goal

abbrev pub invariant-loop-p : goal.invariant-loop-p
invariant-loop-p l = HasBelow (flat l.design) l.p l.found
