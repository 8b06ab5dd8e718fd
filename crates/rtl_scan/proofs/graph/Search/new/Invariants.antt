use Rattle.std.proofs.Common.{◌≡◌, ◌++◌, drop}
use Rattle.rtl_scan.specs.Graph.{fresh}
use Rattle.rtl_scan.proofs.graph.Search.new.Given as goal

abbrev pub invariant-loop-row : goal.invariant-loop-row
invariant-loop-row l = l.nodes.items ++ fresh (drop l.row-index l.rows) ≡ fresh l.rows
