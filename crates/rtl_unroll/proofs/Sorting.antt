-- A region, sorted.
use Rattle.std.specs.Prelude.{ℕ, map, Vec}
use Rattle.std.specs.declared.alloc.Global.{Global}
use Rattle.std.proofs.Common.{◌≡◌, ◌∙◌, ap}
use Rattle.rtl_tree.specs.declared.tree.written.WrittenItem.{WrittenItem}
use Rattle.rtl_tree.specs.declared.tree.written.WrittenItem.TheVariants as item
use Rattle.rtl_tree.specs.TreeWritten.{item_row, written_item}
use Rattle.rtl_tree.proofs.TreeViews.{region_is}
use Rattle.rtl_unroll.specs.Plain.{Sorted, sorted_item, sorted_items}

pub region_sorted : (s : Sorted) (at : ℕ) (items : Vec WrittenItem Global) (written : WrittenItem)
    → written ≡ item.Region at items
    → sorted_item s (written_item written) ≡ sorted_items s (item_row (map written_item items.items))
region_sorted s at items written is =
    ap (λ w. sorted_item s (written_item w)) is ∙ ap (sorted_item s) (region_is at items)
