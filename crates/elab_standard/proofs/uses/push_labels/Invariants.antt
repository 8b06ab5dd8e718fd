use Rattle.std.proofs.Common.{◌≡◌, ◌++◌, map, drop}
use Rattle.rtl_tree.specs.TreeExpr.{formula}
use Rattle.elab_standard.specs.Scopes.{scopes}
use Rattle.elab_standard.specs.Uses.{all_inner_notes}
use Rattle.elab_standard.proofs.uses.push_labels.Given as goal

abbrev pub invariant-loop-label : goal.invariant-loop-label
invariant-loop-label l =
    l.made.items ++ all_inner_notes l.home (scopes l.kept) (map formula (drop l.label-index l.labels))
    ≡ l.initial.made.items ++ all_inner_notes l.home (scopes l.kept) (map formula l.labels)
