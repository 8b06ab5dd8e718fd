use Rattle.std.proofs.Common.{◌≡◌, ◌-◌, ◌^◌, map, max, min, drop}
use Rattle.text_grammar.specs.Depth.{instantiation_depth, greatest}
use Rattle.rtl_tree.specs.TreeItem.{instantiation}
use Rattle.text_grammar.proofs.nesting.items.instances_depth.Given as goal

abbrev pub invariant-loop-instance : goal.invariant-loop-instance
invariant-loop-instance l =
    max l.most (min (greatest instantiation_depth (map instantiation (drop l.instance-index l.all))) (2 ^ 32 - 1))
    ≡ min (greatest instantiation_depth (map instantiation l.all)) (2 ^ 32 - 1)
