use Rattle.rtl_flat.specs.Flats.{flat}
use Rattle.net_model.specs.Gates.{InCone}
use Rattle.rtl_rule.specs.Sites.{AreFindings}
use Rattle.check_gates.specs.check_chains.check_found.Gathered.{signal_numbers, sites_below}
use Rattle.check_clocks.specs.Clocks.{IsClockAsData, clock_as_data_at}
use Rattle.check_clocks.proofs.clock_data.findings.Given as goal

abbrev pub invariant-loop-number : goal.invariant-loop-number
invariant-loop-number l =
    let d = flat l.design in
    AreFindings (IsClockAsData (InCone (flat l.design)) d) (clock_as_data_at d) (sites_below (signal_numbers d) d l.number) l.found.items
