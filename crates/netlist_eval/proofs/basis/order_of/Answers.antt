use Rattle.std.proofs.Common.{subst}
use Rattle.rtl_flat.specs.Flats.{flat}
use Rattle.net_order.specs.declared.order.Ranking.{Ranking}
use Rattle.net_order.specs.Order.{IsRanking}
use Rattle.net_turn.specs.net_settle.Work.{numbers_of}
use Rattle.netlist_eval.proofs.Ordered.{no_cycle}
use Rattle.netlist_eval.proofs.basis.order_of.Goals as goal

pub returns-in-Order-clause-no_cycle : goal.returns-in-Order-clause-no_cycle
returns-in-Order-clause-no_cycle c =
    let d = flat c.args.design.now in
    no_cycle d (numbers_of c.in-Order.order.items) (subst (λ (r : Ranking). IsRanking d r) c.in-Order.is c.in_ok-order.ensures)
