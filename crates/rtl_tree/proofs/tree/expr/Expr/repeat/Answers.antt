use Rattle.rtl_tree.proofs.TreeViews.{repeat_is}
use Rattle.rtl_tree.proofs.tree.expr.Expr.repeat.Goals as goal

pub returns : goal.returns
returns c = repeat_is c.args.at c.args.times c.args.parts
