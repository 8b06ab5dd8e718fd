use Rattle.std.proofs.Common.{map, refl}
use Rattle.rtl_tree.specs.TreeExpr.{formula}
use Rattle.rtl_tree.specs.TreeItem.{drive}
use Rattle.rtl_tree.specs.TreeStmt.{target}
use Rattle.elab_standard.specs.Scopes.{scopes}
use Rattle.elab_uses.specs.Bodies.{assignment_uses}
use Rattle.elab_uses.specs.Items.{drive_uses}
use Rattle.elab_uses.proofs.Rows.{more_noted}
use Rattle.elab_uses.proofs.items.push_drives.Goals as goal

pub loop-assignment-preserved : goal.loop-assignment-preserved
loop-assignment-preserved c =
    let s = scopes c.args.scopes.now in
    more_noted c.args.home (λ one. assignment_uses s (target one.target) (formula one.value)) (λ all. drive_uses s (map drive all)) (λ one all. refl) c.loop-assignment.made.items _ c.args.assignments.now c.loop-assignment.assignment-index c.assignment-item.result _ c.loop-assignment-test.true c.assignment-item.is c.in_ok-push_assignment.ensures c.loop-assignment.invariant
