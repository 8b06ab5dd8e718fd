use Rattle.std.proofs.Common.{length}
use Rattle.rtl_flat.specs.Flats.{flat}
use Rattle.rtl_rule.specs.Sites.{AreFindings}
use Rattle.check_gates.specs.check_chains.check_found.Gathered.{sites_below}
use Rattle.check_clocks.specs.Clocks.{IsDerivedClock, derived_clock_at, events_of}
use Rattle.check_clocks.specs.Roles.{AreRoles}
use Rattle.check_gates.specs.Tops.{AreTops}
use Rattle.check_clocks.proofs.derived.findings.Given as goal

abbrev pub invariant-loop-process : goal.invariant-loop-process
invariant-loop-process l =
    let d = flat l.design in
    AreTops d (length d.signals) l.tops → AreRoles d (length l.design.processes.items) l.roles.clocks.items l.roles.resets.items → AreFindings (IsDerivedClock d) derived_clock_at (sites_below events_of d l.process-index) l.found.items
