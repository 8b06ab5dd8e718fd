use Rattle.std.proofs.Common.{◌≡◌, map}
use Rattle.std.specs.Vec.Iter.{into_iter_items}
use Rattle.rtl_tree.specs.TreeWritten.{item_row, written_item}
use Rattle.rtl_unroll.specs.Plain.{sorted_items, sorted_of}
use Rattle.rtl_unroll.proofs.+sorted.Given as goal

abbrev pub invariant-push_items-loop-one : goal.invariant-push_items-loop-one
invariant-push_items-loop-one l =
    sorted_items (sorted_of l.sorted) (item_row (map written_item (into_iter_items l.one-iterator)))
    ≡ sorted_items (sorted_of l.initial.sorted) (item_row (map written_item l.fn.written.items))
