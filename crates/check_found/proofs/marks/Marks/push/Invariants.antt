use Rattle.std.proofs.Common.{◌≡◌, ◌++◌, map}
use Rattle.check_found.specs.Marked.{passing, shown, wants}
use Rattle.check_found.proofs.marks.Marks.push.Given as goal

abbrev pub invariant-loop-signal : goal.invariant-loop-signal
invariant-loop-signal l =
    l.found.items ++ map (shown l.rule l.process.instance) (passing (wants l.among) l.signal-iterator) ≡ l.fn.found.items ++ map (shown l.rule l.process.instance) (passing (wants l.among) l.self.spots.entries)
