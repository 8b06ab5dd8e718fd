use Rattle.std.proofs.Common.{◌≡◌, map, drop}
use Rattle.rtl_tree.specs.TreeExpr.{formula, formula_row}
use Rattle.elab_scope.specs.Names.{meanings}
use Rattle.elab_nodes.specs.Nodes.{row_count}
use Rattle.elab_nodes.specs.Spares.{spared}
use Rattle.elab_nodes.proofs.nodes.+spend.Given as goal

abbrev pub invariant-spend_row-loop-part : goal.invariant-spend_row-loop-part
invariant-spend_row-loop-part l =
    spared l.left (row_count (meanings l.names) (formula_row (map formula (drop l.part-index l.parts))))
    ≡ spared l.initial.left (row_count (meanings l.names) (formula_row (map formula l.parts)))
