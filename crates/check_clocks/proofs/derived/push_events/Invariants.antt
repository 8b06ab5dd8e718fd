use Rattle.std.proofs.Common.{◌≡◌, ◌++◌, map, take}
use Rattle.std.specs.List.{filter_map}
use Rattle.rtl_flat.specs.Process.{task, watched}
use Rattle.check_clocks.specs.Roles.{derived_in}
use Rattle.check_clocks.proofs.derived.push_events.Given as goal

abbrev pub invariant-loop-item : goal.invariant-loop-item
invariant-loop-item l =
    l.found.items ≡ l.fn.found.items ++ filter_map (λ item. derived_in l.tops l.roles.clocks.items l.roles.resets.items (map watched l.events) (task l.process) (watched item)) (take l.item-index l.events)
