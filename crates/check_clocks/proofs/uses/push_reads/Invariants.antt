use Rattle.std.proofs.Common.{◌≡◌, ◌++◌, ℕ, drop}
use Rattle.text_ground.specs.declared.text.Spot.{Spot}
use Rattle.check_gates.specs.check_chains.check_parts.Kept.{expressions}
use Rattle.rtl_flat.specs.Flats.{flat, widths}
use Rattle.check_clocks.specs.Uses.{places_of, read_places}
use Rattle.check_clocks.proofs.uses.push_reads.Given as goal

abbrev pub invariant-loop-e : goal.invariant-loop-e
invariant-loop-e l =
    (otherwise : Spot) (s : ℕ) → places_of s l.found.items ++ read_places (widths (flat l.design)) otherwise s (expressions (drop l.e-index l.all)) ≡ places_of s l.fn.found.items ++ read_places (widths (flat l.design)) otherwise s (expressions l.all)
