use Rattle.std.proofs.Common.{◌∙◌, subst}
use Rattle.rtl_flat.specs.Flats.{flat, parts}
use Rattle.net_model.specs.Gates.{InCone}
use Rattle.check_sense.specs.Sense.{AreSenseFindings}
use Rattle.check_assign.specs.Findings.{AreAssignFindings}
use Rattle.check_clocks.specs.check_gates.Admitted.{AreGates, gates_of}
use Rattle.check_clocks.specs.check_chains.Findings.{AreResetFindings}
use Rattle.check_clocks.specs.Findings.{AreClockFindings}
use Rattle.check_case.specs.Cases.{AreCaseFindings}
use Rattle.check_unknown.specs.Unknowns.{AreUnknownFindings}
use Rattle.check_all.proofs.Merging.{all_of}
use Rattle.check_all.proofs.all.check.Goals as goal

pub returns : goal.returns
returns c =
    let same = c.in_ok-scans.ensures.design in
    all_of (parts c.args.design.now) (gates_of c.in_ok-gates.gates.items)
    (subst (λ d. AreGates (flat d) (gates_of c.in_ok-gates.gates.items)) same c.in_ok-gates.ensures)
    c.in_ok-sense.sense.items c.in_ok-assigned.assigned.items c.in_ok-clocked.clocked.items c.in_ok-reset.reset.items c.in_ok-cases.cases.items c.in_ok-unknown.unknown.items c.in_ok-readings.readings.items c.in_ok-two.two.items c.in_ok-three.three.items c.in_ok-four.four.items c.in_ok-five.five.items c.in_ok-six.six.items
    (subst (λ d. AreSenseFindings (flat d) c.in_ok-sense.sense.items) same c.in_ok-sense.ensures)
    (subst (λ d. AreAssignFindings (flat d) c.in_ok-assigned.assigned.items) same c.in_ok-assigned.ensures)
    (subst (λ d. AreClockFindings (InCone (flat d)) (flat d) c.in_ok-clocked.clocked.items) same c.in_ok-clocked.ensures)
    (subst (λ d. AreResetFindings (flat d) c.in_ok-reset.reset.items) same c.in_ok-reset.ensures)
    (subst (λ d. AreCaseFindings (flat d) c.in_ok-cases.cases.items) same c.in_ok-cases.ensures)
    (subst (λ d. AreUnknownFindings (parts d) c.in_ok-unknown.unknown.items) same c.in_ok-unknown.ensures)
    c.in_ok-readings.ensures
    c.merged-6.result
    (λ xs ys one other. c.in_ok-two.ensures xs ys (c.deref-4.ensures.value ∙ one) (c.deref-5.ensures.value ∙ other))
    (λ xs ys one other. c.in_ok-three.ensures xs ys (c.deref-6.ensures.value ∙ one) (c.deref-7.ensures.value ∙ other))
    (λ xs ys one other. c.in_ok-four.ensures xs ys (c.deref-8.ensures.value ∙ one) (c.deref-9.ensures.value ∙ other))
    (λ xs ys one other. c.in_ok-five.ensures xs ys (c.deref-10.ensures.value ∙ one) (c.deref-11.ensures.value ∙ other))
    (λ xs ys one other. c.in_ok-six.ensures xs ys (c.deref-12.ensures.value ∙ one) (c.deref-13.ensures.value ∙ other))
    (λ xs ys one other. c.merged-6.ensures xs ys (c.deref-14.ensures.value ∙ one) (c.deref-15.ensures.value ∙ other))
