-- Constructs that hold vectors.
use Rattle.std.proofs.Common.{arith}
use Rattle.std.proofs.lemmas.Grind.{common_steps}
use Rattle.rtl_unroll.proofs.Counting.{region_counted, case_counted, block_counted}
use Rattle.rtl_unroll.proofs.numbering.+constructs.Goals as goal

pub item_constructs-returns-in-Region : goal.item_constructs-returns-in-Region
item_constructs-returns-in-Region t c =
    let told = region_counted c.in-Region.field-0 c.in-Region.items c.args.item.now c.in-Region.is in
    grind (arith, common_steps, told)

pub item_constructs-returns-in_ok-choices_constructs-in-Case : goal.item_constructs-returns-in_ok-choices_constructs-in-Case
item_constructs-returns-in_ok-choices_constructs-in-Case t c =
    let here = c.in-Case in
    let told = case_counted here.field-0 here.field-1 here.choices c.args.item.now here.is in
    grind (arith, common_steps, told)

pub block_constructs-returns-in-None : goal.block_constructs-returns-in-None
block_constructs-returns-in-None t c =
    let here = c.in-Block in
    let told = block_counted here.field-0 here.label here.items c.args.block.now here.is c.in-None.is in
    grind (arith, common_steps, told)
