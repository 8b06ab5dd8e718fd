use Rattle.rtl_flat.specs.Flats.{flat}
use Rattle.rtl_rule.specs.Sites.{AreFindings}
use Rattle.check_found.specs.Gathered.{signal_numbers, sites_below}
use Rattle.check_sense.specs.Sense.{IsSenseMissing, sense_missing_at}
use Rattle.check_sense.proofs.missing.sense_missing.Given as goal

abbrev pub invariant-loop-number : goal.invariant-loop-number
invariant-loop-number l =
    AreFindings (IsSenseMissing (flat l.scans.design.now)) sense_missing_at (sites_below (signal_numbers (flat l.scans.design.now)) (flat l.scans.design.now) l.number) l.found.items
