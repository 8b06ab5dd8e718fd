use Rattle.std.proofs.lemmas.Result.{on_ok_weaker}
use Rattle.rtl_scan.proofs.Advances.{fits_follow, new_is, done_is, open_is, cyclic_is}
use Rattle.rtl_scan.proofs.graph.Search.follow_back.Goals as goal

pub follow-requires-clause-fits : goal.follow-requires-clause-fits
follow-requires-clause-fits c =
    fits_follow c.args.rows.now c.args.self.now c.requires.rows c.requires.search c.requires.some c.args.top c.requires.top c.requires.left c.args.p c.requires.p c.index-node.result.now c.index-node.ensures c.in-Done.is

pub returns-in-New : goal.returns-in-New
returns-in-New c =
    on_ok_weaker c.enter.result
    (λ e. new_is c.args.rows.now c.args.self.now c.requires.rows c.requires.search c.requires.some c.args.top c.requires.top c.requires.left c.args.p c.requires.p c.index-node.result.now c.index-node.ensures c.in-New.is c.enter.new.self e.0 e.1 e.2)
    c.enter.ensures

pub returns-in-Done : goal.returns-in-Done
returns-in-Done c =
    done_is c.args.rows.now c.args.self.now c.requires.rows c.requires.search c.requires.some c.args.top c.requires.top c.requires.left c.args.p c.requires.p c.index-node.result.now c.index-node.ensures c.in-Done.is c.follow.new.self c.follow.ensures.nodes c.follow.ensures.stack c.follow.ensures.finished

pub returns-in-Open : goal.returns-in-Open
returns-in-Open c =
    open_is c.args.rows.now c.args.self.now c.requires.rows c.requires.search c.requires.some c.args.top c.requires.top c.requires.left c.args.p c.requires.p c.index-node.result.now c.index-node.ensures c.in-Open.is c.leave.new.self c.leave.ensures.nodes c.leave.ensures.stack c.leave.ensures.finished

pub returns-in-Cyclic : goal.returns-in-Cyclic
returns-in-Cyclic c =
    cyclic_is c.args.rows.now c.args.self.now c.requires.rows c.requires.search c.requires.some c.args.top c.requires.top c.requires.left c.args.p c.requires.p c.index-node.result.now c.index-node.ensures c.in-Cyclic.is c.leave-in-Cyclic.new.self c.leave-in-Cyclic.ensures.nodes c.leave-in-Cyclic.ensures.stack c.leave-in-Cyclic.ensures.finished
