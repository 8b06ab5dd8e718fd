use Rattle.std.proofs.Common.{get_or, refl}
use Rattle.check_loops.proofs.Turning.{put_more}
use Rattle.check_loops.proofs.turned.put_all.Goals as goal

pub loop-node-preserved : goal.loop-node-preserved
loop-node-preserved c =
    let nodes = c.args.nodes.now in
    put_more nodes c.loop-node.node-index c.args.from (get_or nodes c.loop-node.node-index 0) c.args.table.now.items c.loop-node.table.items c.put.new.table.items refl c.loop-node.invariant c.in_ok-put.ensures
