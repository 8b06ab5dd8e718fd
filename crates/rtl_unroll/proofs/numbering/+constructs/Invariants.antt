use Rattle.std.proofs.Common.{◌≡◌, ◌+◌, map, drop}
use Rattle.rtl_tree.specs.TreeWritten.{choice, choice_row, item_row, written_item}
use Rattle.rtl_unroll.specs.Numbering.{choices_constructs, items_constructs}
use Rattle.rtl_unroll.proofs.numbering.+constructs.Given as goal

abbrev pub invariant-items_constructs-loop-item : goal.invariant-items_constructs-loop-item
invariant-items_constructs-loop-item l =
    l.count + items_constructs (item_row (map written_item (drop l.item-index l.items)))
    ≡ items_constructs (item_row (map written_item l.items))

abbrev pub invariant-choices_constructs-loop-one : goal.invariant-choices_constructs-loop-one
invariant-choices_constructs-loop-one l =
    l.count + choices_constructs (choice_row (map choice (drop l.one-index l.choices)))
    ≡ choices_constructs (choice_row (map choice l.choices))
