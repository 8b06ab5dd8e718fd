use Rattle.rtl_tree.proofs.TreeViews.{block_is}
use Rattle.rtl_tree.proofs.tree.stmt.Stmt.block.Goals as goal

pub returns : goal.returns
returns c = block_is c.args.at c.args.label c.args.body
