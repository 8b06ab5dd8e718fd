use Rattle.std.proofs.Common.{map, refl}
use Rattle.rtl_tree.specs.TreeItem.{gate_drive}
use Rattle.elab_standard.specs.Scopes.{scopes}
use Rattle.elab_uses.specs.Items.{gate_use, gate_uses}
use Rattle.elab_uses.proofs.Rows.{more_noted}
use Rattle.elab_uses.proofs.items.push_gates.Goals as goal

pub loop-drive-preserved : goal.loop-drive-preserved
loop-drive-preserved c =
    let s = scopes c.args.scopes.now in
    more_noted c.args.home (λ one. gate_use s (gate_drive one)) (λ all. gate_uses s (map gate_drive all)) (λ one all. refl) c.loop-drive.made.items _ c.args.drives.now c.loop-drive.drive-index c.drive-item.result _ c.loop-drive-test.true c.drive-item.is c.in_ok-push_gate.ensures c.loop-drive.invariant
