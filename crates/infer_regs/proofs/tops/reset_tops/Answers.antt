use Rattle.std.proofs.Common.{◌<◌, ◌+◌, length, map, take, sym, subst, arith}
use Rattle.net_list.specs.check_chains.Views.{guard_view}
use Rattle.infer_regs.specs.Taken.{AreResetTops}
use Rattle.infer_regs.proofs.Topped.{reset_next}
use Rattle.infer_regs.proofs.tops.reset_tops.Goals as goal

pub loop-guard-preserved : goal.loop-guard-preserved
loop-guard-preserved c =
    let tops = c.args.tops.now in
    let all = c.args.resets.now in
    let n = c.loop-guard.guard-index in
    let below : n < length all = omega arith in
    subst (AreResetTops tops (map guard_view (take (n + 1) all))) (sym c.in_ok-push.ensures.items)
    (reset_next tops all n c.guard-item.result below c.guard-item.is c.loop-guard.found.items c.top_of.result c.loop-guard.invariant c.top_of.ensures)
