use Rattle.std.proofs.Common.{◌≡◌, ◌++◌, map}
use Rattle.std.specs.Vec.Iter.{into_iter_items}
use Rattle.rtl_tree.specs.TreeExpr.{formula}
use Rattle.rtl_unroll.specs.Gates.{input}
use Rattle.rtl_unroll.proofs.inputs.wrapped.Given as goal

abbrev pub invariant-loop-one : goal.invariant-loop-one
invariant-loop-one l =
    map formula l.made.items ++ map input (map formula (into_iter_items l.one-iterator))
    ≡ map input (map formula l.fn.inputs.items)
