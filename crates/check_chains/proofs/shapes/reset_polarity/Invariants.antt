use Rattle.rtl_flat.specs.Flats.{flat}
use Rattle.rtl_rule.specs.Sites.{AreFindings}
use Rattle.check_found.specs.Gathered.{sites_below}
use Rattle.check_chains.specs.Chains.{IsResetPolarity, reset_polarity_at}
use Rattle.check_chains.specs.Inner.{itself}
use Rattle.check_chains.proofs.shapes.reset_polarity.Given as goal

abbrev pub invariant-loop-number : goal.invariant-loop-number
invariant-loop-number l =
    AreFindings (IsResetPolarity (flat l.design)) (reset_polarity_at (flat l.design)) (sites_below itself (flat l.design) l.number) l.found.items
