use Rattle.event_tables.proofs.Joining.{like_here}
use Rattle.event_tables.proofs.listeners.place_of.Goals as goal

pub returns-then-is_like : goal.returns-then-is_like
returns-then-is_like c =
    like_here c.args.row.now c.loop-at.at c.index-row-at.result c.args.edge c.args.mask c.loop-at-test.true c.index-row-at.is (c.is_like.ensures c.if-is_like.true)
