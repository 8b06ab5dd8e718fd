-- Inputs are joined as often as it takes, and once more changes nothing.
use Rattle.std.proofs.Common.{map, arith, sym, ◌∙◌, ap, length, ◌≡◌, ◌<◌, ◌≤◌}
use Rattle.std.proofs.lemmas.List.{length-map}
use Rattle.rtl_tree.specs.TreeExpr.{formula}
use Rattle.rtl_unroll.specs.Gates.{pairs}
use Rattle.rtl_unroll.proofs.Joining.{joined_done, joined_turn, pairs_fewer}
use Rattle.rtl_unroll.proofs.inputs.joined.Goals as goal

pub loop-alloc-preserved : goal.loop-alloc-preserved
loop-alloc-preserved c =
    let n : 1 < length (map formula c.loop-alloc.inputs.items) = omega (arith, length-map c.loop-alloc.inputs.items formula) in
    joined_turn _ _ _ _ n c.in_ok-inputs.ensures ∙ c.loop-alloc.invariant

pub loop-alloc-smaller : goal.loop-alloc-smaller
loop-alloc-smaller c =
    let es = map formula c.loop-alloc.inputs.items in
    let n : 1 < length es = omega (arith, length-map c.loop-alloc.inputs.items formula) in
    let made : length (map formula c.in_ok-inputs.inputs.items) ≡ length (pairs c.args.operator c.args.at es) =
    ap length c.in_ok-inputs.ensures in
    omega
    (arith, pairs_fewer c.args.operator c.args.at es n, made, length-map c.loop-alloc.inputs.items formula, length-map c.in_ok-inputs.inputs.items formula)

pub returns : goal.returns
returns c =
    let few : length (map formula c.loop-alloc.inputs.items) ≤ 1 = omega (arith, length-map c.loop-alloc.inputs.items formula) in
    record {
      value = sym (joined_done _ _ _ few) ∙ c.loop-alloc.invariant;
      one = omega arith;
    }
