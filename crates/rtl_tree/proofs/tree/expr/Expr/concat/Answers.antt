use Rattle.rtl_tree.proofs.TreeViews.{concat_is}
use Rattle.rtl_tree.proofs.tree.expr.Expr.concat.Goals as goal

pub returns : goal.returns
returns c = concat_is c.args.at c.args.parts
