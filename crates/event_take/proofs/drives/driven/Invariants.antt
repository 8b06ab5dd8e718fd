use Rattle.std.proofs.Common.{◌≡◌, ◌≤◌, drop, length, map}
use Rattle.std.specs.List.{All}
use Rattle.rtl_flat.specs.Process.{piece}
use Rattle.rtl_flat.specs.Signs.{width_in}
use Rattle.rtl_flat.specs.WellFormed.{IsFixed}
use Rattle.event_model.specs.Writes.{Values, all_written, counts, driven, no_drive, writes}
use Rattle.event_write.specs.Entries.{AreSelected}
use Rattle.event_take.proofs.drives.driven.Given as goal

abbrev pub invariant-loop-part : goal.invariant-loop-part
invariant-loop-part l =
    AreSelected l.signals (map piece (drop l.part-index l.parts))
    × All (λ piece. IsFixed piece.selection) (map piece (drop l.part-index l.parts))
    × (l.left ≡ counts (width_in l.signals) (map piece (drop l.part-index l.parts)))
    × (l.left ≤ length l.bits)
    × (length l.given ≡ width_in l.signals l.net.0)
    × ((v : Values) → v l.net.0 ≡ l.given → all_written v (writes (width_in l.signals) (no_drive (width_in l.signals)) (map piece (drop l.part-index l.parts)) l.bits) l.net.0 ≡ driven (width_in l.signals) (map piece l.parts) l.bits l.net.0)
