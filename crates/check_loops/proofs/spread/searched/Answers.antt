use Rattle.std.proofs.Common.{false, get_or, ap, ◌∙◌}
use Rattle.check_loops.proofs.Spreading.{loops_more}
use Rattle.check_loops.proofs.spread.searched.Goals as goal

pub loop-node-preserved : goal.loop-node-preserved
loop-node-preserved c =
    let node = c.loop-node.node in
    loops_more c.args.rows.now node c.in_ok-marks.marks.items c.loop-node.answers.items c.push.new.self.items c.is_marked.result c.loop-node-test.true c.in_ok-push.ensures.items
    (c.is_marked.ensures ∙ ap (λ ms. get_or ms node false) c.deref.ensures.value) c.in_ok-marks.ensures c.loop-node.invariant
