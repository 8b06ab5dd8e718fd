use Rattle.std.proofs.Common.{◌≡◌, drop}
use Rattle.rtl_prep.specs.Regions as spec
use Rattle.rtl_prep.specs.Stops.{each}
use Rattle.rtl_prep.proofs.region.cut_out.Given as goal

abbrev pub invariant-loop-token : goal.invariant-loop-token
invariant-loop-token l = each spec.cut (spec.seen l.cut) (drop l.token-index l.tokens) ≡ each spec.cut spec.whole l.tokens
