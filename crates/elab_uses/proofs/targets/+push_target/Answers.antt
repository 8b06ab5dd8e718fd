use Rattle.std.proofs.Common.{map, refl}
use Rattle.rtl_tree.specs.TreeStmt.{target, target_row}
use Rattle.elab_standard.specs.Scopes.{scopes}
use Rattle.elab_uses.specs.Bodies.{parts_uses, target_uses}
use Rattle.elab_uses.proofs.Rows.{more_noted}
use Rattle.elab_uses.proofs.targets.+push_target.Goals as goal

pub push_parts-loop-part-preserved : goal.push_parts-loop-part-preserved
push_parts-loop-part-preserved t c =
    let s = scopes c.args.scopes.now in
    more_noted c.args.home (λ one. target_uses s (target one)) (λ all. parts_uses s (target_row (map target all))) (λ one all. refl) c.loop-part.made.items _ c.args.parts.now c.loop-part.part-index c.part-item.result _ c.loop-part-test.true c.part-item.is c.in_ok-push_target.ensures c.loop-part.invariant
