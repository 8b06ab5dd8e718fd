use Rattle.std.proofs.Common.{◌≡◌, ◌++◌, ℕ, drop}
use Rattle.std.specs.List.{flat_map}
use Rattle.rtl_flat.specs.Process.{task}
use Rattle.check_parts.specs.Kept.{targets}
use Rattle.check_readings.specs.Told.{target_told}
use Rattle.check_readings.proofs.targets.push_targets.Given as goal

abbrev pub invariant-loop-part : goal.invariant-loop-part
invariant-loop-part l =
    (p : ℕ) → l.found.items ++ flat_map (target_told p (task l.process)) (targets (drop l.part-index l.part-items))
    ≡ l.fn.found.items ++ flat_map (target_told p (task l.process)) (targets l.part-items)
