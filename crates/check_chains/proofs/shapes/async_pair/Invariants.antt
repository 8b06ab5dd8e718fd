use Rattle.rtl_flat.specs.Flats.{flat}
use Rattle.rtl_rule.specs.Sites.{AreFindings}
use Rattle.check_found.specs.Gathered.{sites_below}
use Rattle.check_chains.specs.Chains.{IsAsyncPair, async_pair_at}
use Rattle.check_chains.specs.Inner.{itself}
use Rattle.check_chains.proofs.shapes.async_pair.Given as goal

abbrev pub invariant-loop-number : goal.invariant-loop-number
invariant-loop-number l =
    AreFindings (IsAsyncPair (flat l.design)) (async_pair_at (flat l.design)) (sites_below itself (flat l.design) l.number) l.found.items
