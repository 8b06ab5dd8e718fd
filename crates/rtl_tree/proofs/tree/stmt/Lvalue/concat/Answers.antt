use Rattle.rtl_tree.proofs.TreeViews.{joined_is}
use Rattle.rtl_tree.proofs.tree.stmt.Lvalue.concat.Goals as goal

pub returns : goal.returns
returns c = joined_is c.args.at c.args.parts
