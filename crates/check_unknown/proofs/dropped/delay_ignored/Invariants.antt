use Rattle.std.proofs.Common.{◌≡◌, take}
use Rattle.rtl_flat.specs.Flats.{flat}
use Rattle.check_unknown.specs.Lists.{delays_found}
use Rattle.check_unknown.proofs.dropped.delay_ignored.Given as goal

abbrev pub invariant-loop-delay : goal.invariant-loop-delay
invariant-loop-delay l =
    l.found.items ≡ delays_found (flat l.design) (take l.delay-index l.design.delays.items)
