use Rattle.rtl_flat.specs.Flats.{flat}
use Rattle.net_order.specs.Ranks.{IsLeastOf, IsLost}
use Rattle.net_order.proofs.rank.lost.Given as goal

abbrev pub invariant-loop-number : goal.invariant-loop-number
invariant-loop-number l =
    IsLeastOf (IsLost (flat l.design).signals (flat l.design).tasks l.depths l.number) l.least
