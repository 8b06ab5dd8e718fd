use Rattle.rtl_flat.specs.Flats.{flat}
use Rattle.net_order.specs.Ranks.{ArePlaced}
use Rattle.net_order.proofs.rank.places.Given as goal

abbrev pub invariant-loop-number : goal.invariant-loop-number
invariant-loop-number l = ArePlaced (flat l.design).tasks l.depths l.number l.found.items
