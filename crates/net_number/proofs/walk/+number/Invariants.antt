use Rattle.std.proofs.Common.{◌≡◌, length, map, drop, ◌+◌, ◌++◌}
use Rattle.rtl_flat.specs.Expression.{tree, beside}
use Rattle.rtl_flat.specs.Sizes.{IsSized, width_of}
use Rattle.rtl_flat.specs.Value.{store, widths}
use Rattle.net_model.specs.Numbers.{digits}
use Rattle.net_number.proofs.walk.+number.Given as goal

abbrev pub invariant-concat_number-loop-part : goal.invariant-concat_number-loop-part
invariant-concat_number-loop-part l =
    let rest = beside (map tree (drop l.part-index l.part-items)) in
    let all = beside (map tree l.parts) in
    IsSized (length l.numbers) (widths l.numbers) rest
    × (digits l.fill (store l.numbers) rest ++ l.all ≡ digits l.fill (store l.numbers) all)
    × (width_of (widths l.numbers) rest + length l.all ≡ width_of (widths l.numbers) all)
