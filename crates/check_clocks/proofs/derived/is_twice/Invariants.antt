use Rattle.std.proofs.Common.{◌≡◌, cond, take}
use Rattle.std.specs.Prelude.{count_by}
use Rattle.check_clocks.specs.Roles.{has_top}
use Rattle.check_clocks.proofs.derived.is_twice.Given as goal

abbrev pub invariant-loop-item : goal.invariant-loop-item
invariant-loop-item l =
    cond l.once 1 0 ≡ count_by (λ item. has_top l.tops l.top item.signal.0) (take l.item-index l.events)
