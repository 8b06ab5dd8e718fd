use Rattle.std.proofs.Common.{arith}
use Rattle.std.proofs.lemmas.Grind.{common_steps}
use Rattle.text_grammar.proofs.TreeDepths.{region_depth, generate_case_depth, generate_block_depth}
use Rattle.text_grammar.proofs.nesting.written.+nested_written.Goals as goal

pub written_depth-returns-in-Region : goal.written_depth-returns-in-Region
written_depth-returns-in-Region t c =
    let k = c.in-Region in
    grind (arith, common_steps, region_depth k.field-0 k.items c.args.item.now k.is)

pub written_depth-returns-in-Case : goal.written_depth-returns-in-Case
written_depth-returns-in-Case t c =
    let k = c.in-Case in
    grind (arith, common_steps, generate_case_depth k.field-0 k.selector k.choices c.args.item.now k.is)

pub made_depth-returns-in-Block : goal.made_depth-returns-in-Block
made_depth-returns-in-Block t c =
    let k = c.in-Block in
    grind (arith, common_steps, generate_block_depth k.field-0 k.field-1 k.items c.args.block.now k.is)
