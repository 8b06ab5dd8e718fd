-- Constructs that hold vectors.
use Rattle.std.proofs.Common.{◌≡◌, ◌∙◌, ap, arith, map}
use Rattle.std.proofs.lemmas.Grind.{common_steps}
use Rattle.rtl_tree.specs.TreeWritten.{choice, choice_list, choice_row, item_list, item_row, written_item}
use Rattle.rtl_unroll.specs.Lowered.{lowered_choices, lowered_items}
use Rattle.rtl_unroll.proofs.Lowering.{choice_row_back, item_row_back, region_lowered, case_lowered, block_lowered, body_lowered}
use Rattle.rtl_unroll.proofs.lowered.+lowered.Goals as goal

pub lowered_item-returns-in-Region : goal.lowered_item-returns-in-Region
lowered_item-returns-in-Region t c =
    let told = region_lowered c.args.count c.in-Region.at c.in-Region.items c.args.written c.in-Region.is in
    grind (arith, common_steps, told)

pub lowered_item-returns-in-Case : goal.lowered_item-returns-in-Case
lowered_item-returns-in-Case t c =
    let here = c.in-Case in
    let told = case_lowered c.args.count here.at here.selector here.choices c.args.written here.is in
    grind (arith, common_steps, told)

pub lowered_block-returns-in-Block : goal.lowered_block-returns-in-Block
lowered_block-returns-in-Block t c =
    let told = block_lowered c.args.count c.in-Block.at c.in-Block.label c.in-Block.items c.args.block c.in-Block.is in
    grind (arith, common_steps, told)

pub lowered_body-returns-in_ok-label-in-Block : goal.lowered_body-returns-in_ok-label-in-Block
lowered_body-returns-in_ok-label-in-Block t c =
    let here = c.in-Block in
    let told = body_lowered c.args.number c.args.at here.own here.label here.items c.args.body here.is in
    grind (arith, common_steps, told)

pub lowered_items-returns : goal.lowered_items-returns
lowered_items-returns t c =
    let row = lowered_items c.args.count (item_row (map written_item c.args.items.items)) in
    let told : map written_item c.loop-item.all.items ≡ item_list row = grind (arith, common_steps) in
    ap item_row told ∙ item_row_back row

pub lowered_choices-returns : goal.lowered_choices-returns
lowered_choices-returns t c =
    let row = lowered_choices c.args.count (choice_row (map choice c.args.choices.items)) in
    let told : map choice c.loop-one.all.items ≡ choice_list row = grind (arith, common_steps) in
    ap choice_row told ∙ choice_row_back row
