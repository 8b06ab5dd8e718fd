use Rattle.rtl_tree.proofs.TreeViews.{generate_case_is}
use Rattle.rtl_tree.proofs.tree.written.WrittenItem.case.Goals as goal

pub returns : goal.returns
returns c = generate_case_is c.args.at c.args.selector c.args.choices
