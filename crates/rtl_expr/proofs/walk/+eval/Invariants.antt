use Rattle.std.proofs.Common.{◌≡◌, length, map, drop, ◌+◌, ◌++◌}
use Rattle.rtl_flat.specs.Expression.{tree, beside}
use Rattle.rtl_flat.specs.Sizes.{IsSized, width_of}
use Rattle.rtl_flat.specs.Value.{value, store, widths}
use Rattle.rtl_expr.proofs.walk.+eval.Given as goal

abbrev pub invariant-concat_value-loop-part : goal.invariant-concat_value-loop-part
invariant-concat_value-loop-part l =
    let rest = beside (map tree (drop l.part-index l.part-items)) in
    let all = beside (map tree l.parts) in
    IsSized (length l.values) (widths l.values) rest
    × (value (store l.values) rest ++ l.all ≡ value (store l.values) all)
    × (width_of (widths l.values) rest + length l.all ≡ width_of (widths l.values) all)
