use Rattle.std.proofs.Common.{◌≡◌, take}
use Rattle.net_start.specs.Listing.{fills_of}
use Rattle.net_start.proofs.start.filled.Given as goal

abbrev pub invariant-loop-signal : goal.invariant-loop-signal
invariant-loop-signal l =
    l.numbers.items ≡ fills_of l.fn.fill (take l.signal-index l.fn.design.signals.items)
