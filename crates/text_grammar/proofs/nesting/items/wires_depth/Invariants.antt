use Rattle.std.proofs.Common.{◌≡◌, ◌-◌, ◌^◌, map, max, min, drop}
use Rattle.text_grammar.specs.Depth.{net_depth, greatest}
use Rattle.rtl_tree.specs.TreeItem.{net}
use Rattle.text_grammar.proofs.nesting.items.wires_depth.Given as goal

abbrev pub invariant-loop-wire : goal.invariant-loop-wire
invariant-loop-wire l =
    max l.most (min (greatest net_depth (map net (drop l.wire-index l.all))) (2 ^ 32 - 1))
    ≡ min (greatest net_depth (map net l.all)) (2 ^ 32 - 1)
