use Rattle.std.proofs.Common.{◌≡◌, map, drop}
use Rattle.rtl_tree.specs.TreeStmt.{branch, branch_row}
use Rattle.elab_walk.specs.elab_parts.elab_body.Acts.{branches_breadth}
use Rattle.elab_standard.specs.Reads.{read_by}
use Rattle.elab_standard.specs.Scopes.{scopes}
use Rattle.elab_standard.proofs.contexts.items_breadth.Given as goal

abbrev pub invariant-loop-item : goal.invariant-loop-item
invariant-loop-item l =
    branches_breadth (read_by l.by (scopes l.kept)) l.widest (branch_row (map branch (drop l.item-index l.items)))
    ≡ branches_breadth (read_by l.by (scopes l.kept)) l.initial.widest (branch_row (map branch l.items))
