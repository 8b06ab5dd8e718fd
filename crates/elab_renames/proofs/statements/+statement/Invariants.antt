use Rattle.std.proofs.Common.{◌≡◌, ◌++◌, map, drop}
use Rattle.rtl_tree.specs.TreeStmt.{action, branch}
use Rattle.elab_renames.specs.Renames.{renamed_action, renamed_branch, renaming}
use Rattle.elab_renames.proofs.statements.+statement.Given as goal

abbrev pub invariant-renamed_stmts-loop-written : goal.invariant-renamed_stmts-loop-written
invariant-renamed_stmts-loop-written l =
    map action l.made.items ++ map (renamed_action (renaming l.naming)) (map action (drop l.written-index l.all))
    ≡ map (renamed_action (renaming l.naming)) (map action l.all)

abbrev pub invariant-renamed_items-loop-item : goal.invariant-renamed_items-loop-item
invariant-renamed_items-loop-item l =
    map branch l.made.items ++ map (renamed_branch (renaming l.naming)) (map branch (drop l.item-index l.all))
    ≡ map (renamed_branch (renaming l.naming)) (map branch l.all)
