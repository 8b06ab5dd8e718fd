use Rattle.std.proofs.Common.{◌≡◌, ◌++◌, map}
use Rattle.std.specs.List.{flat_map}
use Rattle.std.specs.Vec.Iter.{into_iter_items}
use Rattle.rtl_tree.specs.TreeExpr.{formula}
use Rattle.rtl_tree.specs.TreeStmt.{target}
use Rattle.rtl_unroll.specs.Gates.{output_of}
use Rattle.rtl_unroll.proofs.gates.outputs_of.Given as goal

abbrev pub invariant-loop-terminal : goal.invariant-loop-terminal
invariant-loop-terminal l =
    map target l.outputs.items ++ flat_map output_of (map formula (into_iter_items l.terminal-iterator))
    ≡ map target l.fn.outputs.items ++ flat_map output_of (map formula l.fn.terminals.items)
