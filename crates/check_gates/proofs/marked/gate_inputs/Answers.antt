use Rattle.std.proofs.Common.{◌≡◌, ◌∙◌, Some, true, false, replicate, sym, subst, rules}
use Rattle.std.specs.Prelude.{◌↔◌}
use Rattle.std.specs.List.{flat_map, slice_get}
use Rattle.rtl_flat.specs.Flats.{flat}
use Rattle.net_model.specs.Gates.{IsGateInput}
use Rattle.check_gates.specs.Latches.{own_input}
use Rattle.check_gates.specs.Tops.{AreMarkedAlso}
use Rattle.check_gates.proofs.Marking.{input_marks}
use Rattle.check_gates.proofs.Waiting.{written}
use Rattle.check_gates.proofs.marked.gate_inputs.Goals as goal

pub returns-clause-each : goal.returns-clause-each
returns-clause-each c = λ p.
    let d = flat c.args.design.now in
    let gates = c.args.gates.now in
    let old = c.in_ok-marks.marks.items in
    let new = c.mark_inputs.new.marks in
    let none : old ≡ replicate c.len.result false = c.in_ok-marks.ensures.items_if_clones_equal (λ y e. search rules) in
    let marked = subst (λ o. AreMarkedAlso (flat_map own_input gates) o new) c.deref_mut.ensures.value c.mark_inputs.ensures in
    let whole = written c.in_ok-marks.marks.len new old c.in_ok-marks.marks.ok.0 marked.size in
    subst (λ l. slice_get l p ≡ Some true ↔ IsGateInput d p) (sym whole)
    (input_marks d gates c.requires c.len.result old new (c.len.ensures ∙ c.args.design.now.signals.ok.0) none marked p)
