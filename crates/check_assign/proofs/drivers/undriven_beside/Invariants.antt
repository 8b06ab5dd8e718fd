use Rattle.std.proofs.Common.{take}
use Rattle.std.specs.List.{enumerate_from}
use Rattle.rtl_flat.specs.Flats.{flat}
use Rattle.rtl_rule.specs.Sites.{AreFindings}
use Rattle.check_assign.specs.Assigned.{IsUndriven, undriven_at}
use Rattle.check_assign.proofs.drivers.undriven_beside.Given as goal

abbrev pub invariant-loop-number : goal.invariant-loop-number
invariant-loop-number l =
    AreFindings (IsUndriven (flat l.design)) undriven_at (take l.number (enumerate_from 0 (flat l.design).signals)) l.found.items
