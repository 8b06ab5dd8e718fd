use Rattle.std.proofs.Common.{◌∙◌, ap, sym, subst, List}
use Rattle.std.specs.List.{filter_map, list_any}
use Rattle.std.specs.Option.{is_some}
use Rattle.std.proofs.lemmas.Result.{IfOk-weaker}
use Rattle.rtl_flat.specs.Flats.{flat}
use Rattle.check_gates.specs.Admitted.{AreGates, gates_of}
use Rattle.check_gates.specs.Latches.{AreInputs, kept}
use Rattle.check_gates.specs.declared.gate.Gate as declared
use Rattle.check_gates.proofs.Latched.{admitted_all, no_gates}
use Rattle.check_gates.proofs.admitted.gates.Goals as goal

pub returns-then-not-have_some : goal.returns-then-not-have_some
returns-then-not-have_some c =
    let d = flat c.args.scans.now.design.now in
    subst (λ (l : List declared.Gate). AreGates d (gates_of l)) (sym c.new.ensures.items)
    (no_gates d c.in_ok-forms.forms.items c.in_ok-forms.ensures (sym (ap (list_any is_some) c.deref.ensures.value) ∙ sym c.have_some.ensures ∙ c.if-not-have_some.true))

pub returns : goal.returns
returns c =
    let d = flat c.args.scans.now.design.now in
    let latches = c.in_ok-latches.latches.items in
    let inputs = c.in_ok-inputs.inputs in
    let made : AreInputs d (gates_of latches) inputs = subst (λ l. AreInputs d (gates_of l) inputs) c.deref-3.ensures.value c.in_ok-inputs.ensures in
    IfOk-weaker c.admitted.result _ _ (λ found is. admitted_all d latches c.in_ok-latches.ensures inputs made found.items (is ∙ ap (filter_map (kept inputs)) c.deref-4.ensures.value)) c.admitted.ensures
