use Rattle.rtl_scan.specs.Graph.{IsSearching, StayOld, total, cost}
use Rattle.rtl_scan.proofs.graph.Search.run.Given as goal

abbrev pub invariant-loop-self : goal.invariant-loop-self
invariant-loop-self l = IsSearching l.rows l.self × StayOld l.fn.self.nodes.items l.self.nodes.items

abbrev pub decreases-loop-self : goal.decreases-loop-self
decreases-loop-self l = total cost l.self.nodes.items
