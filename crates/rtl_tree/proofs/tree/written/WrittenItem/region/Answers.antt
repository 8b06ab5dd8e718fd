use Rattle.rtl_tree.proofs.TreeViews.{region_is}
use Rattle.rtl_tree.proofs.tree.written.WrittenItem.region.Goals as goal

pub returns : goal.returns
returns c = region_is c.args.at c.args.items
