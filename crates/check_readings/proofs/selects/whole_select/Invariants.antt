use Rattle.rtl_flat.specs.Flats.{flat}
use Rattle.rtl_rule.specs.Sites.{AreFindings}
use Rattle.check_found.specs.Gathered.{sites_below}
use Rattle.check_readings.specs.Readings.{IsWholeSelect, amounts, whole_select_at}
use Rattle.check_readings.proofs.selects.whole_select.Given as goal

abbrev pub invariant-loop-process : goal.invariant-loop-process
invariant-loop-process l =
    AreFindings (IsWholeSelect (flat l.design)) (whole_select_at (flat l.design)) (sites_below amounts (flat l.design) l.process-index) l.found.items
