use Rattle.std.proofs.Common.{take}
use Rattle.std.specs.List.{flat_map}
use Rattle.rtl_flat.specs.Process.{doing}
use Rattle.check_gates.specs.Waits.{waited}
use Rattle.check_gates.specs.Tops.{AreMarkedAlso}
use Rattle.check_gates.proofs.waits.mark_all_waited.Given as goal

abbrev pub invariant-loop-process : goal.invariant-loop-process
invariant-loop-process l =
    AreMarkedAlso (flat_map (λ process. waited (doing process.does)) (take l.process-index l.processes)) l.fn.marks l.marks
