use Rattle.std.proofs.Common.{◌≡◌, map, drop}
use Rattle.rtl_tree.specs.TreeExpr.{formula}
use Rattle.elab_scope.specs.Names.{meanings}
use Rattle.elab_nodes.specs.Spares.{spared}
use Rattle.elab_nodes.specs.Totals.{labels_count}
use Rattle.elab_nodes.proofs.items.spend_labels.Given as goal

abbrev pub invariant-loop-label : goal.invariant-loop-label
invariant-loop-label l =
    spared l.left (labels_count (meanings l.names) (map formula (drop l.label-index l.labels)))
    ≡ spared l.initial.left (labels_count (meanings l.names) (map formula l.labels))
