use Rattle.std.proofs.Common.{◌∙◌, ap}
use Rattle.std.proofs.lemmas.Result.{IfOk-weaker}
use Rattle.rtl_flat.specs.Flats.{flat}
use Rattle.check_chains.specs.Branches.{has_kept}
use Rattle.check_chains.proofs.Registers.{are_registers}
use Rattle.check_chains.proofs.branches.registers.Goals as goal

pub returns : goal.returns
returns c =
    let marks = c.args.temporaries.now in
    IfOk-weaker c.kept.result _ _
    (λ found is t there.
    are_registers (flat c.args.design.now) t.does c.in_ok-bits.bits.rows.items (λ s k. c.in_ok-bits.ensures.bits t there s k) c.in_ok-bits.ensures.order marks c.requires.marked found
    (λ s. is s ∙ ap (λ rows. has_kept marks rows s) c.deref.ensures.value))
    c.kept.ensures
