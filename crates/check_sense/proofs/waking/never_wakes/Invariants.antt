use Rattle.rtl_flat.specs.Flats.{flat}
use Rattle.rtl_rule.specs.Sites.{AreFindings}
use Rattle.check_found.specs.Gathered.{sites_below}
use Rattle.check_sense.specs.Sense.{IsNeverWakes, never_wakes_at}
use Rattle.check_sense.specs.Telling.{itself}
use Rattle.check_sense.proofs.waking.never_wakes.Given as goal

abbrev pub invariant-loop-number : goal.invariant-loop-number
invariant-loop-number l =
    AreFindings (IsNeverWakes (flat l.scans.design.now)) (never_wakes_at (flat l.scans.design.now)) (sites_below itself (flat l.scans.design.now) l.number) l.found.items
