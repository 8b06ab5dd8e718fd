use Rattle.std.proofs.Common.{◌≡◌, map, drop}
use Rattle.rtl_tree.specs.TreeStmt.{branch, branch_row}
use Rattle.elab_nodes.specs.elab_scope.Names.{meanings}
use Rattle.elab_body.specs.Acts.{branches_sign}
use Rattle.elab_body.proofs.parts.items_sign.Given as goal

abbrev pub invariant-loop-item : goal.invariant-loop-item
invariant-loop-item l =
    branches_sign (meanings l.names) l.signed (branch_row (map branch (drop l.item-index l.items)))
    ≡ branches_sign (meanings l.names) l.initial.signed (branch_row (map branch l.items))
