use Rattle.std.proofs.Common.{◌≡◌, map, vec_len}
use Rattle.rtl_tree.specs.TreeExpr.{formula}
use Rattle.rtl_unroll.specs.Gates.{joined}
use Rattle.rtl_unroll.proofs.inputs.joined.Given as goal

abbrev pub invariant-loop-alloc : goal.invariant-loop-alloc
invariant-loop-alloc l =
    let now = map formula l.inputs.items in
    let first = map formula l.fn.inputs.items in
    joined now l.operator l.at now ≡ joined first l.operator l.at first

abbrev pub decreases-loop-alloc : goal.decreases-loop-alloc
decreases-loop-alloc l = vec_len l.inputs
