use Rattle.std.proofs.Common.{◌≡◌, ◌-◌, ◌^◌, map, max, min, drop}
use Rattle.text_grammar.specs.Depth.{choice_depth, written_depth, greatest}
use Rattle.rtl_tree.specs.TreeWritten.{choice, written_item}
use Rattle.text_grammar.proofs.nesting.written.+nested_written.Given as goal

abbrev pub invariant-items_depth-loop-item : goal.invariant-items_depth-loop-item
invariant-items_depth-loop-item l =
    max l.most (min (greatest written_depth (map written_item (drop l.item-index l.all))) (2 ^ 32 - 1))
    ≡ min (greatest written_depth (map written_item l.all)) (2 ^ 32 - 1)

abbrev pub invariant-choices_depth-loop-one : goal.invariant-choices_depth-loop-one
invariant-choices_depth-loop-one l =
    max l.most (min (greatest choice_depth (map choice (drop l.one-index l.all))) (2 ^ 32 - 1))
    ≡ min (greatest choice_depth (map choice l.all)) (2 ^ 32 - 1)
