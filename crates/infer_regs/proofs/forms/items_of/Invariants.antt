use Rattle.std.proofs.Common.{◌≡◌, map, take}
use Rattle.net_model.specs.Cycle.{Guard}
use Rattle.rtl_flat.specs.Process.{watched}
use Rattle.net_list.specs.check_chains.Views.{guard_view}
use Rattle.infer_regs.proofs.forms.items_of.Given as goal

abbrev pub invariant-loop-guard : goal.invariant-loop-guard
invariant-loop-guard l =
    map (λ item. watched item.now) l.items.items ≡ map (λ (guard : Guard). guard.item) (map guard_view (take l.guard-index l.resets))
