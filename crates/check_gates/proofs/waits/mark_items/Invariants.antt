use Rattle.std.proofs.Common.{take}
use Rattle.std.specs.List.{flat_map}
use Rattle.rtl_flat.specs.Process.{watched}
use Rattle.check_gates.specs.Waits.{waited_by}
use Rattle.check_gates.specs.Tops.{AreMarkedAlso}
use Rattle.check_gates.proofs.waits.mark_items.Given as goal

abbrev pub invariant-loop-item : goal.invariant-loop-item
invariant-loop-item l =
    AreMarkedAlso (flat_map (λ item. waited_by (watched item)) (take l.item-index l.items)) l.fn.marks l.marks
