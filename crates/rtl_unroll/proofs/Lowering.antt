-- Constructs that hold vectors, lowered.
use Rattle.std.specs.Prelude.{ℕ, map, Option, None, Some, Vec}
use Rattle.std.specs.Option.{option_map, unwrap_or}
use Rattle.std.specs.declared.alloc.Global.{Global}
use Rattle.std.proofs.Common.{◌≡◌, ◌∙◌, ap, refl}
use Rattle.rtl_tree.specs.declared.tree.expr.Expr.{Expr}
use Rattle.rtl_tree.specs.declared.tree.names.Name.{Name}
use Rattle.rtl_tree.specs.declared.tree.written.WrittenItem.{WrittenItem}
use Rattle.rtl_tree.specs.declared.tree.written.WrittenItem.TheVariants as item
use Rattle.rtl_tree.specs.declared.tree.written.GenerateBlock.{GenerateBlock}
use Rattle.rtl_tree.specs.declared.tree.written.GenerateBlock.TheVariants as block
use Rattle.rtl_tree.specs.declared.tree.written.GenerateChoice.{GenerateChoice}
use Rattle.rtl_tree.specs.TreeExpr.{Identifier, formula, identifier}
use Rattle.rtl_tree.specs.TreeWritten as tree
use Rattle.rtl_tree.specs.TreeWritten.{choice, choice_list, choice_row, item_list, item_row, made, written_item}
use Rattle.rtl_tree.proofs.TreeViews.{region_is, generate_case_is, generate_block_is}
use Rattle.rtl_unroll.specs.Lowered.{loop_name, lowered_block, lowered_body, lowered_item, lowered_items}

pub item_row_back : (row : tree.WrittenItems) → item_row (item_list row) ≡ row
item_row_back tree.no_items = refl
item_row_back (tree.more_items first others) = ap (tree.more_items first) (item_row_back others)

pub choice_row_back : (row : tree.GenerateChoices) → choice_row (choice_list row) ≡ row
choice_row_back tree.no_choices = refl
choice_row_back (tree.more_choices first others) = ap (tree.more_choices first) (choice_row_back others)

pub region_lowered : (count at : ℕ) (items : Vec WrittenItem Global) (written : WrittenItem)
    → written ≡ item.Region at items
    → lowered_item count (written_item written)
    ≡ tree.Region at (lowered_items count (item_row (map written_item items.items)))
region_lowered count at items written is =
    ap (λ w. lowered_item count (written_item w)) is ∙ ap (lowered_item count) (region_is at items)

pub case_lowered : (count at : ℕ) (selector : Expr) (choices : Vec GenerateChoice Global) (written : WrittenItem)
    → written ≡ item.Case at selector choices
    → lowered_item count (written_item written)
    ≡ lowered_item count (tree.Case at (formula selector) (choice_row (map choice choices.items)))
case_lowered count at selector choices written is =
    ap (λ w. lowered_item count (written_item w)) is ∙ ap (lowered_item count) (generate_case_is at selector choices)

pub block_lowered : (count at : ℕ) (label : Option Name) (items : Vec WrittenItem Global) (written : GenerateBlock)
    → written ≡ block.Block at label items
    → lowered_block count (made written)
    ≡ lowered_block count (tree.Block at (option_map identifier label) (item_row (map written_item items.items)))
block_lowered count at label items written is =
    ap (λ w. lowered_block count (made w)) is ∙ ap (lowered_block count) (generate_block_is at label items)

-- a loop between `begin` and `end` keeps its label
labelled : (number at own : ℕ) (label : Option Identifier) (items : tree.WrittenItems)
    → lowered_body number at (tree.Block own label items)
    ≡ tree.Block own (Some (unwrap_or label (loop_name number at))) (lowered_items 0 items)
labelled number at own None items = refl
labelled number at own (Some label) items = refl

pub body_lowered : (number at own : ℕ) (label : Option Name) (items : Vec WrittenItem Global) (written : GenerateBlock)
    → written ≡ block.Block own label items
    → lowered_body number at (made written)
    ≡ tree.Block own (Some (unwrap_or (option_map identifier label) (loop_name number at)))
    (lowered_items 0 (item_row (map written_item items.items)))
body_lowered number at own label items written is =
    ap (λ w. lowered_body number at (made w)) is
    ∙ ap (lowered_body number at) (generate_block_is own label items)
    ∙ labelled number at own (option_map identifier label) (item_row (map written_item items.items))
