use Rattle.std.proofs.Common.{◌≡◌, map, drop}
use Rattle.rtl_tree.specs.TreeExpr.{formula}
use Rattle.elab_expand.specs.Expansions.{labels_judged, matches}
use Rattle.elab_expand.specs.Openings.{tally}
use Rattle.elab_expand.specs.Scoping.{scopes}
use Rattle.elab_expand.proofs.cases.has_label.Given as goal

abbrev pub invariant-loop-label : goal.invariant-loop-label
invariant-loop-label l =
    (matches (scopes l.within) l.number (map formula (drop l.label-index l.labels)) ≡ matches (scopes l.within) l.number (map formula l.labels))
    × (labels_judged (scopes l.within) l.at l.number (map formula (drop l.label-index l.labels)) (tally l.so_far) ≡ labels_judged (scopes l.within) l.at l.number (map formula l.labels) (tally l.initial.so_far))
