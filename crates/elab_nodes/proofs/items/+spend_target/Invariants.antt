use Rattle.std.proofs.Common.{◌≡◌, map, drop}
use Rattle.rtl_tree.specs.TreeStmt.{target, target_row}
use Rattle.elab_scope.specs.Names.{meanings}
use Rattle.elab_nodes.specs.Spares.{spared}
use Rattle.elab_nodes.specs.Totals.{targets_count}
use Rattle.elab_nodes.proofs.items.+spend_target.Given as goal

abbrev pub invariant-spend_targets-loop-part : goal.invariant-spend_targets-loop-part
invariant-spend_targets-loop-part l =
    spared l.left (targets_count (meanings l.names) (target_row (map target (drop l.part-index l.parts))))
    ≡ spared l.initial.left (targets_count (meanings l.names) (target_row (map target l.parts)))
