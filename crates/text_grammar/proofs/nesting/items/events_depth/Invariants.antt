use Rattle.std.proofs.Common.{◌≡◌, ◌-◌, ◌^◌, map, max, min, drop}
use Rattle.text_grammar.specs.Depth.{happening_depth, greatest}
use Rattle.rtl_tree.specs.TreeItem.{happening}
use Rattle.text_grammar.proofs.nesting.items.events_depth.Given as goal

abbrev pub invariant-loop-event : goal.invariant-loop-event
invariant-loop-event l =
    max l.most (min (greatest happening_depth (map happening (drop l.event-index l.all))) (2 ^ 32 - 1))
    ≡ min (greatest happening_depth (map happening l.all)) (2 ^ 32 - 1)
