use Rattle.rtl_tree.proofs.TreeViews.{case_is}
use Rattle.rtl_tree.proofs.tree.stmt.Stmt.case.Goals as goal

pub returns : goal.returns
returns c = case_is c.args.at c.args.kind c.args.full c.args.parallel c.args.selector c.args.items
