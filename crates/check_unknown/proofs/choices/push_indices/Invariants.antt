use Rattle.std.proofs.Common.{◌≡◌, ◌++◌, map, take}
use Rattle.std.specs.List.{flat_map}
use Rattle.rtl_flat.specs.Process.{piece}
use Rattle.rtl_flat.specs.Flats.{flat, widths}
use Rattle.check_unknown.specs.Doubts.{choice_spots}
use Rattle.check_unknown.specs.Unknowns.{index_choice}
use Rattle.check_unknown.proofs.choices.push_indices.Given as goal

abbrev pub invariant-loop-part : goal.invariant-loop-part
invariant-loop-part l =
    l.spots.items ≡ l.initial.spots.items ++ choice_spots (widths (flat l.design)) l.marks (flat_map index_choice (map piece (take l.part-index l.target)))
