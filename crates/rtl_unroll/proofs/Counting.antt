-- Constructs that hold vectors, counted.
use Rattle.std.specs.Prelude.{ℕ, ◌+◌, map, Option, None, Vec}
use Rattle.std.specs.declared.alloc.Global.{Global}
use Rattle.std.proofs.Common.{◌≡◌, ◌∙◌, ap}
use Rattle.rtl_tree.specs.declared.tree.expr.Expr.{Expr}
use Rattle.rtl_tree.specs.declared.tree.names.Name.{Name}
use Rattle.rtl_tree.specs.declared.tree.written.WrittenItem.{WrittenItem}
use Rattle.rtl_tree.specs.declared.tree.written.WrittenItem.TheVariants as item
use Rattle.rtl_tree.specs.declared.tree.written.GenerateBlock.{GenerateBlock}
use Rattle.rtl_tree.specs.declared.tree.written.GenerateBlock.TheVariants as block
use Rattle.rtl_tree.specs.declared.tree.written.GenerateChoice.{GenerateChoice}
use Rattle.rtl_tree.specs.TreeWritten.{choice, choice_row, item_row, made, written_item}
use Rattle.rtl_tree.proofs.TreeViews.{region_is, generate_case_is, generate_block_is}
use Rattle.rtl_unroll.specs.Numbering.{item_constructs, items_constructs, block_constructs, choices_constructs}

pub region_counted : (at : ℕ) (items : Vec WrittenItem Global) (written : WrittenItem)
    → written ≡ item.Region at items
    → item_constructs (written_item written) ≡ items_constructs (item_row (map written_item items.items))
region_counted at items written is =
    ap (λ w. item_constructs (written_item w)) is ∙ ap item_constructs (region_is at items)

pub case_counted : (at : ℕ) (selector : Expr) (choices : Vec GenerateChoice Global) (written : WrittenItem)
    → written ≡ item.Case at selector choices
    → item_constructs (written_item written) ≡ 1 + choices_constructs (choice_row (map choice choices.items))
case_counted at selector choices written is =
    ap (λ w. item_constructs (written_item w)) is ∙ ap item_constructs (generate_case_is at selector choices)

pub block_counted : (at : ℕ) (label : Option Name) (items : Vec WrittenItem Global) (written : GenerateBlock)
    → written ≡ block.Block at label items
    → label ≡ None
    → block_constructs (made written) ≡ items_constructs (item_row (map written_item items.items))
block_counted at label items written is none =
    ap (λ w. block_constructs (made w)) is
    ∙ ap (λ l. block_constructs (made (block.Block at l items))) none
    ∙ ap block_constructs (generate_block_is at None items)
