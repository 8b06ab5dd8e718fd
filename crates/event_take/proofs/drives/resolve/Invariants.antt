use Rattle.std.proofs.Common.{◌≡◌, ◌-◌, drop, length}
use Rattle.rtl_flat.specs.Signs.{width_in}
use Rattle.event_write.specs.QueueState.{design_of, resolved_by, row, state}
use Rattle.event_take.proofs.drives.resolve.Given as goal

abbrev pub invariant-loop-behind : goal.invariant-loop-behind
invariant-loop-behind l =
    (l.given ≡ resolved_by (design_of l.fanout) (drop (l.count - l.behind) (row l.fanout.drivers.items l.net.0)) (state l.queue).driver l.net.0)
    × (length l.given ≡ width_in l.fanout.design.now.signals.items l.net.0)
