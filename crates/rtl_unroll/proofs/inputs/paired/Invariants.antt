use Rattle.std.proofs.Common.{◌≡◌, ◌++◌, map}
use Rattle.std.specs.Option.{option_map, option_to_list}
use Rattle.std.specs.Vec.Iter.{into_iter_items}
use Rattle.rtl_tree.specs.TreeExpr.{formula}
use Rattle.rtl_unroll.specs.Gates.{pairs}
use Rattle.rtl_unroll.proofs.inputs.paired.Given as goal

abbrev pub invariant-loop-right : goal.invariant-loop-right
invariant-loop-right l =
    map formula l.made.items
    ++ pairs l.operator l.at (option_to_list (option_map formula l.waiting) ++ map formula (into_iter_items l.right-iterator))
    ≡ pairs l.operator l.at (map formula l.fn.inputs.items)
