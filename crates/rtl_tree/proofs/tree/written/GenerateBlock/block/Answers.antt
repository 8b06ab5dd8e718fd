use Rattle.rtl_tree.proofs.TreeViews.{generate_block_is}
use Rattle.rtl_tree.proofs.tree.written.GenerateBlock.block.Goals as goal

pub returns : goal.returns
returns c = generate_block_is c.args.at c.args.label c.args.items
