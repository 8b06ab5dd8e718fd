use Rattle.rtl_scan.specs.Arrows.{AreKept}
use Rattle.rtl_scan.proofs.feeds.keep_nodes.Given as goal

abbrev pub invariant-loop-number : goal.invariant-loop-number
invariant-loop-number l = AreKept l.processes l.depths l.number l.levels.items
