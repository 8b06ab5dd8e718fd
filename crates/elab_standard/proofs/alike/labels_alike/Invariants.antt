use Rattle.std.proofs.Common.{◌≡◌, map, drop}
use Rattle.std.specs.List.{list_all}
use Rattle.rtl_tree.specs.TreeExpr.{formula}
use Rattle.elab_standard.specs.Alike.{reads_alike}
use Rattle.elab_standard.specs.Scopes.{scopes}
use Rattle.elab_standard.proofs.alike.labels_alike.Given as goal

abbrev pub invariant-loop-label : goal.invariant-loop-label
invariant-loop-label l =
    list_all (reads_alike (scopes l.kept)) (map formula (drop l.label-index l.labels))
    ≡ list_all (reads_alike (scopes l.kept)) (map formula l.labels)
