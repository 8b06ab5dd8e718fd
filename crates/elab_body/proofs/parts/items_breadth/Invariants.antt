use Rattle.std.proofs.Common.{◌≡◌, map, drop}
use Rattle.rtl_tree.specs.TreeStmt.{branch, branch_row}
use Rattle.elab_nodes.specs.elab_scope.Names.{meanings}
use Rattle.elab_body.specs.Acts.{branches_breadth}
use Rattle.elab_body.proofs.parts.items_breadth.Given as goal

abbrev pub invariant-loop-item : goal.invariant-loop-item
invariant-loop-item l =
    branches_breadth (meanings l.names) l.widest (branch_row (map branch (drop l.item-index l.items)))
    ≡ branches_breadth (meanings l.names) l.initial.widest (branch_row (map branch l.items))
