use Rattle.std.proofs.Common.{◌≡◌, ◌-◌, ◌^◌, map, max, min, drop}
use Rattle.text_grammar.specs.Depth.{positional_depth, greatest}
use Rattle.rtl_tree.specs.TreeItem.{positional}
use Rattle.text_grammar.proofs.nesting.items.ordered_depth.Given as goal

abbrev pub invariant-loop-argument : goal.invariant-loop-argument
invariant-loop-argument l =
    max l.most (min (greatest positional_depth (map positional (drop l.argument-index l.all))) (2 ^ 32 - 1))
    ≡ min (greatest positional_depth (map positional l.all)) (2 ^ 32 - 1)
