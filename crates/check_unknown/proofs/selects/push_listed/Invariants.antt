use Rattle.std.proofs.Common.{◌≡◌, ◌++◌, map, take}
use Rattle.std.specs.List.{filter_map}
use Rattle.rtl_flat.specs.Process.{Watched, watched}
use Rattle.rtl_flat.specs.Flats.{flat, widths}
use Rattle.check_unknown.specs.Lists.{misses_found}
use Rattle.check_unknown.specs.Unknowns.{pick_of}
use Rattle.check_unknown.proofs.selects.push_listed.Given as goal

abbrev pub invariant-loop-item : goal.invariant-loop-item
invariant-loop-item l =
    l.found.items ≡ l.initial.found.items ++ misses_found (widths (flat l.design)) l.instance (filter_map (λ (item : Watched). pick_of item.signal item.spot item.selection) (map watched (take l.item-index l.items)))
