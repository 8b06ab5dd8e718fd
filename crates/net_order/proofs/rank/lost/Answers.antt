use Rattle.std.proofs.Common.{◌≡◌, ℕ, length, subst, arith}
use Rattle.rtl_flat.specs.Flats.{flat}
use Rattle.check_found.proofs.Sites.{task_count}
use Rattle.net_order.specs.Ranks.{IsLeastOf, IsLost}
use Rattle.net_order.proofs.Losing.{lost_none}
use Rattle.net_order.proofs.rank.lost.Goals as goal

pub loop-number-init : goal.loop-number-init
loop-number-init c = lost_none (flat c.args.design.now) c.args.depths.now

pub loop-number-preserved : goal.loop-number-preserved
loop-number-preserved c = c.in_ok-least.ensures c.loop-number.invariant

pub returns : goal.returns
returns c =
    let d = flat c.args.design.now in
    let count = task_count c.args.design.now in
    let e : c.loop-number.number ≡ length d.tasks = omega arith in
    subst (λ (n : ℕ). IsLeastOf (IsLost d.signals d.tasks c.args.depths.now n) c.loop-number.least) e c.loop-number.invariant
