use Rattle.std.proofs.Common.{◌≡◌, ◌++◌, ℕ, drop}
use Rattle.std.specs.List.{flat_map}
use Rattle.rtl_flat.specs.Flats.{flat}
use Rattle.rtl_flat.specs.Process.{task}
use Rattle.check_parts.specs.Kept.{expressions}
use Rattle.check_readings.specs.Told.{whole_told}
use Rattle.check_readings.proofs.selects.push_wholes.Given as goal

abbrev pub invariant-loop-e : goal.invariant-loop-e
invariant-loop-e l =
    (p : ℕ) → l.found.items ++ flat_map (whole_told (flat l.design) p (task l.process)) (expressions (drop l.e-index l.e-items))
    ≡ l.fn.found.items ++ flat_map (whole_told (flat l.design) p (task l.process)) (expressions l.e-items)
