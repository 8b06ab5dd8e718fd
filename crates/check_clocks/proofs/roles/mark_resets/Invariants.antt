use Rattle.std.proofs.Common.{take}
use Rattle.std.specs.List.{flat_map}
use Rattle.check_gates.specs.check_chains.rtl_scan.Graph.{row}
use Rattle.check_gates.specs.Tops.{AreMarkedAlso}
use Rattle.check_clocks.proofs.roles.mark_resets.Given as goal

abbrev pub invariant-loop-guard : goal.invariant-loop-guard
invariant-loop-guard l =
    AreMarkedAlso (flat_map (λ guard. row l.tops guard.item.now.signal.0) (take l.guard-index l.resets)) l.fn.marks l.marks
