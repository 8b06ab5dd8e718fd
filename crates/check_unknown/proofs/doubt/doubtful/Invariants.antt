use Rattle.std.proofs.Common.{◌≡◌, ◌+◌, length}
use Rattle.rtl_flat.specs.Flats.{flat}
use Rattle.check_unknown.specs.Spreading.{IsSpreading, left}
use Rattle.check_unknown.proofs.doubt.doubtful.Given as goal

abbrev pub invariant-loop-signal : goal.invariant-loop-signal
invariant-loop-signal l =
    IsSpreading (flat l.scans.design.now) (length l.scans.design.now.signals.items) l.seen.items l.spread
    × (length l.seen.items ≡ length l.scans.design.now.processes.items)

abbrev pub decreases-loop-signal : goal.decreases-loop-signal
decreases-loop-signal l = left l.spread.marked.items + length l.spread.waiting.items
