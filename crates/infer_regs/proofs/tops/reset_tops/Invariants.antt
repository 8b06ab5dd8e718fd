use Rattle.std.proofs.Common.{map, take}
use Rattle.net_list.specs.check_chains.Views.{guard_view}
use Rattle.infer_regs.specs.Taken.{AreResetTops}
use Rattle.infer_regs.proofs.tops.reset_tops.Given as goal

abbrev pub invariant-loop-guard : goal.invariant-loop-guard
invariant-loop-guard l =
    AreResetTops l.tops (map guard_view (take l.guard-index l.resets)) l.found.items
