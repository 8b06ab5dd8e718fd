use Rattle.std.proofs.Common.{◌≡◌, map, drop}
use Rattle.std.specs.List.{list_any}
use Rattle.rtl_tree.specs.TreeExpr.{formula}
use Rattle.elab_standard.specs.Cases.{is_extended_otherwise}
use Rattle.elab_standard.specs.Scopes.{scopes}
use Rattle.elab_standard.proofs.cases.any_label.Given as goal

abbrev pub invariant-loop-label : goal.invariant-loop-label
invariant-loop-label l =
    list_any (is_extended_otherwise (scopes l.kept).scope l.widest) (map formula (drop l.label-index l.labels))
    ≡ list_any (is_extended_otherwise (scopes l.kept).scope l.widest) (map formula l.labels)
