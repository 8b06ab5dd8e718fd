use Rattle.std.proofs.Common.{◌≡◌, ℕ}
use Rattle.rtl_flat.specs.Flats.{flat}
use Rattle.rtl_rule.specs.Sites.{AreFindings}
use Rattle.check_loops.specs.check_found.Masks.{has_in}
use Rattle.check_loops.specs.check_found.Gathered.{signal_numbers, sites_below}
use Rattle.check_assign.specs.Assigned.{IsSeveralDrivers, lower_writes, several_drivers_at}
use Rattle.check_assign.proofs.drivers.Drivers.of.Given as goal

abbrev pub invariant-loop-number : goal.invariant-loop-number
invariant-loop-number l =
    AreFindings (IsSeveralDrivers (flat l.scans.design.now)) several_drivers_at (sites_below (signal_numbers (flat l.scans.design.now)) (flat l.scans.design.now) l.number) l.several.items × ((s k : ℕ) → has_in l.lower s k ≡ lower_writes (flat l.scans.design.now) l.number s k)
