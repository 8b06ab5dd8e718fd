use Rattle.std.proofs.Common.{◌≡◌, ◌++◌, map, take}
use Rattle.std.specs.List.{filter_map}
use Rattle.rtl_flat.specs.Process.{Piece, piece}
use Rattle.rtl_flat.specs.Flats.{flat, widths}
use Rattle.check_unknown.specs.Lists.{misses_found}
use Rattle.check_unknown.specs.Unknowns.{pick_of}
use Rattle.check_unknown.proofs.selects.push_written.Given as goal

abbrev pub invariant-loop-part : goal.invariant-loop-part
invariant-loop-part l =
    l.found.items ≡ l.initial.found.items ++ misses_found (widths (flat l.design)) l.instance (filter_map (λ (one : Piece). pick_of one.signal one.spot one.selection) (map (λ one. piece one.now) (take l.part-index l.targets)))
