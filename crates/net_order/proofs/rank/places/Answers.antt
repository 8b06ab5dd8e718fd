use Rattle.std.proofs.Common.{◌≡◌, ℕ, length, subst, arith}
use Rattle.rtl_flat.specs.Flats.{flat}
use Rattle.check_found.proofs.Sites.{task_count}
use Rattle.net_order.specs.Ranks.{ArePlaced}
use Rattle.net_order.proofs.Ranking.{places_none}
use Rattle.net_order.proofs.rank.places.Goals as goal

pub loop-number-init : goal.loop-number-init
loop-number-init c =
    places_none (flat c.args.design.now).tasks c.args.depths.now c.new-found.result.items c.new-found.ensures.items

pub loop-number-preserved : goal.loop-number-preserved
loop-number-preserved c = c.in_ok-place.ensures c.loop-number.invariant

pub returns : goal.returns
returns c =
    let d = flat c.args.design.now in
    let count = task_count c.args.design.now in
    let e : c.loop-number.number ≡ length d.tasks = omega arith in
    subst (λ (n : ℕ). ArePlaced d.tasks c.args.depths.now n c.loop-number.found.items) e c.loop-number.invariant
