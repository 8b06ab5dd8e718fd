use Rattle.rtl_flat.specs.Flats.{flat}
use Rattle.check_unknown.specs.Lists.{AreFirsts}
use Rattle.check_unknown.proofs.dropped.firsts.Given as goal

abbrev pub invariant-loop-p : goal.invariant-loop-p
invariant-loop-p l = AreFirsts (flat l.design) l.p l.firsts.items
