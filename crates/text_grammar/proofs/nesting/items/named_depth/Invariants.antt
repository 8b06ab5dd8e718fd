use Rattle.std.proofs.Common.{◌≡◌, ◌-◌, ◌^◌, map, max, min, drop}
use Rattle.text_grammar.specs.Depth.{associated_depth, greatest}
use Rattle.rtl_tree.specs.TreeItem.{associated}
use Rattle.text_grammar.proofs.nesting.items.named_depth.Given as goal

abbrev pub invariant-loop-argument : goal.invariant-loop-argument
invariant-loop-argument l =
    max l.most (min (greatest associated_depth (map associated (drop l.argument-index l.all))) (2 ^ 32 - 1))
    ≡ min (greatest associated_depth (map associated l.all)) (2 ^ 32 - 1)
