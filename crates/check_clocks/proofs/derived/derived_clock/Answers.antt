use Rattle.std.proofs.Common.{length, sym, subst}
use Rattle.std.proofs.lemmas.Result.{IfOk-weaker}
use Rattle.rtl_flat.specs.Flats.{flat}
use Rattle.check_gates.specs.Tops.{AreTops}
use Rattle.check_clocks.proofs.derived.derived_clock.Goals as goal

pub returns : goal.returns
returns c =
    let d = flat c.args.design.now in
    let tops = c.in_ok-tops.ensures in
    let for_roles = subst (AreTops d (length d.signals)) (sym c.deref.ensures.value) tops in
    let for_findings = subst (AreTops d (length d.signals)) (sym c.deref-2.ensures.value) tops in
    IfOk-weaker c.findings.result _ _ (λ found are. are for_findings (c.in_ok-roles.ensures for_roles)) c.findings.ensures
