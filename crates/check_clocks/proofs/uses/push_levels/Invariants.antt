use Rattle.std.proofs.Common.{◌≡◌, ◌++◌, ℕ, drop, map}
use Rattle.rtl_flat.specs.Process.{watched}
use Rattle.rtl_flat.specs.Flats.{flat, widths}
use Rattle.check_clocks.specs.Uses.{level_places, places_of}
use Rattle.check_clocks.proofs.uses.push_levels.Given as goal

abbrev pub invariant-loop-item : goal.invariant-loop-item
invariant-loop-item l =
    (s : ℕ) → places_of s l.found.items ++ level_places (widths (flat l.design)) s (map watched (drop l.item-index l.items)) ≡ places_of s l.fn.found.items ++ level_places (widths (flat l.design)) s (map watched l.items)
