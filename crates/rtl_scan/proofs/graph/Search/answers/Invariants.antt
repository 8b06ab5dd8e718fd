use Rattle.std.proofs.Common.{◌≡◌, ◌++◌, map, drop}
use Rattle.rtl_scan.specs.Graph.{answer_of}
use Rattle.rtl_scan.proofs.graph.Search.answers.Given as goal

abbrev pub invariant-loop-node : goal.invariant-loop-node
invariant-loop-node l = l.answers.items ++ map answer_of (drop l.node-index l.self.nodes.items) ≡ map answer_of l.self.nodes.items
