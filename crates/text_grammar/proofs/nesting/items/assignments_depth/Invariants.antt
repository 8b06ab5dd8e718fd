use Rattle.std.proofs.Common.{◌≡◌, ◌-◌, ◌^◌, map, max, min, drop}
use Rattle.text_grammar.specs.Depth.{drive_depth, greatest}
use Rattle.rtl_tree.specs.TreeItem.{drive}
use Rattle.text_grammar.proofs.nesting.items.assignments_depth.Given as goal

abbrev pub invariant-loop-assignment : goal.invariant-loop-assignment
invariant-loop-assignment l =
    max l.most (min (greatest drive_depth (map drive (drop l.assignment-index l.all))) (2 ^ 32 - 1))
    ≡ min (greatest drive_depth (map drive l.all)) (2 ^ 32 - 1)
