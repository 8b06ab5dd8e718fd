use Rattle.std.proofs.Common.{◌≡◌, ◌≤◌, ◌++◌, length, map, drop, take}
use Rattle.std.specs.List.{All}
use Rattle.rtl_flat.specs.Process.{piece}
use Rattle.rtl_flat.specs.Signs.{width_in}
use Rattle.rtl_flat.specs.Value.{store}
use Rattle.event_model.specs.Writes.{counts}
use Rattle.net_model.specs.Block.{digit_writes}
use Rattle.net_body.specs.Entries.{IsInside, all_writes}
use Rattle.net_body.proofs.entries.prepare.Given as goal

abbrev pub invariant-loop-number : goal.invariant-loop-number
invariant-loop-number l =
    (l.left ≡ counts (width_in l.signals) (map piece (drop l.number l.parts)))
    × (all_writes (take l.number l.entries) ++ digit_writes (width_in l.signals) l.fill (store l.numbers) (map piece (drop l.number l.parts)) l.value ≡ digit_writes (width_in l.signals) l.fill (store l.numbers) (map piece l.parts) l.value)
    × All (IsInside l.signals) (all_writes (take l.number l.entries))
    × (l.left ≤ length l.value)
