use Rattle.rtl_scan.specs.declared.graph.Mark.TheVariants.{Open, Done, Cyclic}
use Rattle.rtl_scan.proofs.Advances.{visited_none, begin_mark, open_new, done_new, cyclic_new}
use Rattle.rtl_scan.proofs.graph.Search.visit.Goals as goal

pub begin-requires-clause-fresh : goal.begin-requires-clause-fresh
begin-requires-clause-fresh c =
    begin_mark c.args.rows.now c.args.start c.args.self.now c.requires.search c.requires.inside c.index-node.result.now c.index-node.ensures c.in-New.is

pub returns-in-Open : goal.returns-in-Open
returns-in-Open c =
    visited_none c.args.rows.now c.args.start c.args.self.now c.requires.search c.requires.empty c.requires.inside c.index-node.result.now c.index-node.ensures Open c.in-Open.is open_new

pub returns-in-Done : goal.returns-in-Done
returns-in-Done c =
    visited_none c.args.rows.now c.args.start c.args.self.now c.requires.search c.requires.empty c.requires.inside c.index-node.result.now c.index-node.ensures Done c.in-Done.is done_new

pub returns-in-Cyclic : goal.returns-in-Cyclic
returns-in-Cyclic c =
    visited_none c.args.rows.now c.args.start c.args.self.now c.requires.search c.requires.empty c.requires.inside c.index-node.result.now c.index-node.ensures Cyclic c.in-Cyclic.is cyclic_new
