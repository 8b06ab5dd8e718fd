use Rattle.std.proofs.Common.{map}
use Rattle.rtl_flat.specs.declared.expr.SigId.{SigId}
use Rattle.rtl_flat.specs.Flats.{flat}
use Rattle.infer_regs.proofs.Controlling.{AreBelow}
use Rattle.infer_regs.proofs.inputs.controls.Given as goal

abbrev pub invariant-loop-number : goal.invariant-loop-number
invariant-loop-number l =
    AreBelow (flat l.design) l.number (map (λ (one : SigId). one.0) l.found.items)
