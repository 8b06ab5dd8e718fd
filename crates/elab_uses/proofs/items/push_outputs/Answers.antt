use Rattle.std.proofs.Common.{map, refl}
use Rattle.rtl_tree.specs.TreeStmt.{target}
use Rattle.elab_standard.specs.Scopes.{scopes}
use Rattle.elab_uses.specs.Bodies.{target_uses}
use Rattle.elab_uses.specs.Items.{output_uses}
use Rattle.elab_uses.proofs.Rows.{more_noted}
use Rattle.elab_uses.proofs.items.push_outputs.Goals as goal

pub loop-output-preserved : goal.loop-output-preserved
loop-output-preserved c =
    let s = scopes c.args.scopes.now in
    more_noted c.args.home (λ one. target_uses s (target one)) (λ all. output_uses s (map target all)) (λ one all. refl) c.loop-output.made.items _ c.args.outputs.now c.loop-output.output-index c.output-item.result _ c.loop-output-test.true c.output-item.is c.in_ok-push_target.ensures c.loop-output.invariant
