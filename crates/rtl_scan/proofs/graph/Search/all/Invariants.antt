use Rattle.rtl_scan.specs.Graph.{HasSearched}
use Rattle.rtl_scan.proofs.graph.Search.all.Given as goal

abbrev pub invariant-loop-start : goal.invariant-loop-start
invariant-loop-start l = HasSearched l.rows l.start l.search
