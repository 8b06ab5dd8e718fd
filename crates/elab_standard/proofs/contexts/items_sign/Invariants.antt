use Rattle.std.proofs.Common.{◌≡◌, map, drop}
use Rattle.rtl_tree.specs.TreeStmt.{branch, branch_row}
use Rattle.elab_walk.specs.elab_parts.elab_body.Acts.{branches_sign}
use Rattle.elab_standard.specs.Reads.{read_by}
use Rattle.elab_standard.specs.Scopes.{scopes}
use Rattle.elab_standard.proofs.contexts.items_sign.Given as goal

abbrev pub invariant-loop-item : goal.invariant-loop-item
invariant-loop-item l =
    branches_sign (read_by l.by (scopes l.kept)) l.signed (branch_row (map branch (drop l.item-index l.items)))
    ≡ branches_sign (read_by l.by (scopes l.kept)) l.initial.signed (branch_row (map branch l.items))
