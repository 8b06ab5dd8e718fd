use Rattle.net_order.proofs.Ranking.{AreFirst}
use Rattle.net_order.proofs.rank.ranked.Given as goal

abbrev pub invariant-loop-placed : goal.invariant-loop-placed
invariant-loop-placed l = AreFirst l.placed-items l.placed-index l.order.items
