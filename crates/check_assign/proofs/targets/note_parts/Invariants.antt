use Rattle.std.proofs.Common.{◌≡◌, ℕ, drop, map}
use Rattle.std.specs.List.{filter_map}
use Rattle.std.specs.Ordering.{nat_cmp}
use Rattle.std.specs.BTreeMap.{get}
use Rattle.rtl_flat.specs.Process.{piece}
use Rattle.rtl_flat.specs.Flats.{flat, widths}
use Rattle.check_loops.specs.check_found.Marked.{joined, least_of}
use Rattle.check_assign.specs.Marks.{spot_of}
use Rattle.check_assign.proofs.targets.note_parts.Given as goal

abbrev pub invariant-loop-part : goal.invariant-loop-part
invariant-loop-part l =
    (s : ℕ) → joined (get nat_cmp l.marks.spots s) (least_of (filter_map (spot_of (widths (flat l.design)) s) (map piece (drop l.part-index l.all)))) ≡ joined (get nat_cmp l.fn.marks.spots s) (least_of (filter_map (spot_of (widths (flat l.design)) s) (map piece l.all)))
