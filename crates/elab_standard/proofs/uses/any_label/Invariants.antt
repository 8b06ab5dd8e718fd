use Rattle.std.proofs.Common.{◌≡◌, map, drop}
use Rattle.rtl_tree.specs.TreeExpr.{formula}
use Rattle.elab_standard.specs.Scopes.{scopes}
use Rattle.elab_standard.specs.Uses.{any_differs}
use Rattle.elab_standard.proofs.uses.any_label.Given as goal

abbrev pub invariant-loop-label : goal.invariant-loop-label
invariant-loop-label l =
    any_differs (scopes l.kept) (map formula (drop l.label-index l.labels)) l.desk l.standard
    ≡ any_differs (scopes l.kept) (map formula l.labels) l.desk l.standard
