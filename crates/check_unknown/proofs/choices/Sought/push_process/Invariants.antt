use Rattle.std.proofs.Common.{◌≡◌, ◌++◌, [], map, take}
use Rattle.std.specs.List.{flat_map}
use Rattle.rtl_flat.specs.Process.{action}
use Rattle.rtl_flat.specs.Flats.{flat, widths}
use Rattle.check_unknown.specs.Doubts.{choice_spots, choices_of}
use Rattle.check_unknown.proofs.choices.Sought.push_process.Given as goal

abbrev pub invariant-loop-one : goal.invariant-loop-one
invariant-loop-one l =
    l.spots.items ≡ [] ++ choice_spots (widths (flat l.design)) l.marks (flat_map (choices_of l.self) (map (λ one. action one.now) (take l.one-index l.one-items)))
