use Rattle.std.proofs.Common.{◌≡◌, map, drop}
use Rattle.std.specs.List.{list_all}
use Rattle.rtl_tree.specs.TreeExpr.{formula}
use Rattle.elab_standard.specs.Cases.{is_labelled_literal}
use Rattle.elab_standard.proofs.cases.are_literals.Given as goal

abbrev pub invariant-loop-label : goal.invariant-loop-label
invariant-loop-label l =
    list_all is_labelled_literal (map formula (drop l.label-index l.labels))
    ≡ list_all is_labelled_literal (map formula l.labels)
