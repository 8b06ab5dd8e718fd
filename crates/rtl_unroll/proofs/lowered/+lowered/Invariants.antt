use Rattle.std.proofs.Common.{◌≡◌, ◌++◌, map}
use Rattle.std.specs.Vec.Iter.{into_iter_items}
use Rattle.rtl_tree.specs.TreeWritten.{choice, choice_list, choice_row, item_list, item_row, written_item}
use Rattle.rtl_unroll.specs.Lowered.{lowered_choices, lowered_items}
use Rattle.rtl_unroll.proofs.lowered.+lowered.Given as goal

abbrev pub invariant-lowered_items-loop-item : goal.invariant-lowered_items-loop-item
invariant-lowered_items-loop-item l =
    map written_item l.all.items
    ++ item_list (lowered_items l.before (item_row (map written_item (into_iter_items l.item-iterator))))
    ≡ item_list (lowered_items l.fn.count (item_row (map written_item l.fn.items.items)))

abbrev pub invariant-lowered_choices-loop-one : goal.invariant-lowered_choices-loop-one
invariant-lowered_choices-loop-one l =
    map choice l.all.items
    ++ choice_list (lowered_choices l.before (choice_row (map choice (into_iter_items l.one-iterator))))
    ≡ choice_list (lowered_choices l.fn.count (choice_row (map choice l.fn.choices.items)))
