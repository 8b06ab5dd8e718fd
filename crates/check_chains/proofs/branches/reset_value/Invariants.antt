use Rattle.rtl_flat.specs.Flats.{flat}
use Rattle.rtl_rule.specs.Sites.{AreFindings}
use Rattle.check_found.specs.Gathered.{sites_below}
use Rattle.check_chains.specs.Chains.{IsResetValue, reset_value_at}
use Rattle.check_chains.specs.Inner.{itself}
use Rattle.check_chains.proofs.branches.reset_value.Given as goal

abbrev pub invariant-loop-number : goal.invariant-loop-number
invariant-loop-number l =
    AreFindings (IsResetValue (flat l.scans.design.now)) (reset_value_at (flat l.scans.design.now)) (sites_below itself (flat l.scans.design.now) l.number) l.found.items
