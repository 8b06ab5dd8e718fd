use Rattle.std.proofs.Common.{◌≡◌, ◌∙◌, ℕ, Bool, not, List, length, subst}
use Rattle.std.specs.Prelude.{MatchOption, Option}
use Rattle.rtl_flat.specs.declared.expr.SigId.{SigId}
use Rattle.rtl_flat.specs.Flats.{flat}
use Rattle.netlist_eval.specs.declared.basis.Basis.{Basis}
use Rattle.netlist_eval.specs.Basis.{IsBasisOf}
use Rattle.netlist_eval.specs.net_start.Stored.{places}
use Rattle.vcd_signals.specs.Recording.{flat_of, text_of}
use Rattle.vcd_signals.specs.Signals.{is_recorded}
use Rattle.vcd_check.specs.Checks.{AreMarks, AreNone, IsFirst, is_marked}
use Rattle.vcd_check.specs.Verdicts.{LacksNetlist}
use Rattle.vcd_check.proofs.Comparing.{IsFor, fault, inputs_recorded, stored_missing, stored_recorded, verdict}
use Rattle.vcd_check.proofs.compares.compare.Goals as goal

pub returns-in-Some-first_missing-clause-fault : goal.returns-in-Some-first_missing-clause-fault
returns-in-Some-first_missing-clause-fault c =
    let design = c.args.design.now in
    let r = c.in_ok-recorder.recorder in
    let n = length design.signals.items in
    let is : IsFor design c.args.scope.now c.args.dump.now r = record {
      design_is = c.in_ok-recorder.ensures.design;
      scope_is = c.in_ok-recorder.ensures.scope ∙ c.as_bytes.ensures.value;
      dump_is = c.in_ok-recorder.ensures.text;
    } in
    let marked = subst (λ (l : List SigId). AreMarks n (places l) c.in_ok-inputs.inputs.items) c.deref.ensures.value c.in_ok-inputs.ensures in
    let none = subst (λ (l : List Bool). AreNone (is_marked l) (λ i. not (is_recorded (flat_of r) r.scope.now (text_of r) i)) (length l)) c.deref-2.ensures.value c.in_default.ensures in
    let inputs = inputs_recorded design c.args.scope.now c.args.dump.now r is (places c.in_ok-tops.tops.items) c.in_ok-inputs.inputs.items c.in_ok-tops.ensures.all marked none in
    let holding = subst (λ (l : List SigId). AreMarks n (places l) c.in_ok-marks.marks.items) c.deref-3.ensures.value c.in_ok-marks.ensures in
    let signal = c.in-Some-first_missing.signal in
    let first = subst (λ (l : List Bool). IsFirst (is_marked l) (λ i. not (is_recorded (flat_of r) r.scope.now (text_of r) i)) (length l) signal.0) c.deref-4.ensures.value c.in-Some-first_missing.ensures in
    (inputs, stored_missing design c.args.scope.now c.args.dump.now r is (places c.in_ok-holders.holders.items) c.in_ok-marks.marks.items signal.0 c.in_ok-holders.ensures.all holding first)

pub returns-in_default-2-clause-fault : goal.returns-in_default-2-clause-fault
returns-in_default-2-clause-fault c =
    let design = c.args.design.now in
    let r = c.in_ok-recorder.recorder in
    let n = length design.signals.items in
    let is : IsFor design c.args.scope.now c.args.dump.now r = record {
      design_is = c.in_ok-recorder.ensures.design;
      scope_is = c.in_ok-recorder.ensures.scope ∙ c.as_bytes.ensures.value;
      dump_is = c.in_ok-recorder.ensures.text;
    } in
    let marked = subst (λ (l : List SigId). AreMarks n (places l) c.in_ok-inputs.inputs.items) c.deref.ensures.value c.in_ok-inputs.ensures in
    let none = subst (λ (l : List Bool). AreNone (is_marked l) (λ i. not (is_recorded (flat_of r) r.scope.now (text_of r) i)) (length l)) c.deref-2.ensures.value c.in_default.ensures in
    let inputs = inputs_recorded design c.args.scope.now c.args.dump.now r is (places c.in_ok-tops.tops.items) c.in_ok-inputs.inputs.items c.in_ok-tops.ensures.all marked none in
    let holding = subst (λ (l : List SigId). AreMarks n (places l) c.in_ok-marks.marks.items) c.deref-3.ensures.value c.in_ok-marks.ensures in
    let none_stored = subst (λ (l : List Bool). AreNone (is_marked l) (λ i. not (is_recorded (flat_of r) r.scope.now (text_of r) i)) (length l)) c.deref-4.ensures.value c.in_default-first_missing.ensures in
    let stored = stored_recorded design c.args.scope.now c.args.dump.now r is (places c.in_ok-holders.holders.items) c.in_ok-marks.marks.items c.in_ok-holders.ensures.all holding none_stored in
    let of = subst (λ (o : Option Basis). MatchOption o (LacksNetlist (flat design)) (IsBasisOf (flat design))) c.in_default-2.is c.in_ok-basis.ensures in
    (inputs, stored, of)

pub returns-clause-verdict : goal.returns-clause-verdict
returns-clause-verdict c =
    let design = c.args.design.now in
    let r = c.in_ok-recorder.recorder in
    let n = length design.signals.items in
    let is : IsFor design c.args.scope.now c.args.dump.now r = record {
      design_is = c.in_ok-recorder.ensures.design;
      scope_is = c.in_ok-recorder.ensures.scope ∙ c.as_bytes.ensures.value;
      dump_is = c.in_ok-recorder.ensures.text;
    } in
    let marked = subst (λ (l : List SigId). AreMarks n (places l) c.in_ok-inputs.inputs.items) c.deref.ensures.value c.in_ok-inputs.ensures in
    let none = subst (λ (l : List Bool). AreNone (is_marked l) (λ i. not (is_recorded (flat_of r) r.scope.now (text_of r) i)) (length l)) c.deref-2.ensures.value c.in_default.ensures in
    let inputs = inputs_recorded design c.args.scope.now c.args.dump.now r is (places c.in_ok-tops.tops.items) c.in_ok-inputs.inputs.items c.in_ok-tops.ensures.all marked none in
    let holding = subst (λ (l : List SigId). AreMarks n (places l) c.in_ok-marks.marks.items) c.deref-3.ensures.value c.in_ok-marks.ensures in
    let none_stored = subst (λ (l : List Bool). AreNone (is_marked l) (λ i. not (is_recorded (flat_of r) r.scope.now (text_of r) i)) (length l)) c.deref-4.ensures.value c.in_default-first_missing.ensures in
    let stored = stored_recorded design c.args.scope.now c.args.dump.now r is (places c.in_ok-holders.holders.items) c.in_ok-marks.marks.items c.in_ok-holders.ensures.all holding none_stored in
    let of = subst (λ (o : Option Basis). MatchOption o (LacksNetlist (flat design)) (IsBasisOf (flat design))) c.in-Some-2.is c.in_ok-basis.ensures in
    verdict design c.args.scope.now c.args.dump.now r is c.in-Some-2.basis of inputs stored c.tell.result c.tell.ensures.told

pub returns-clause-fault : goal.returns-clause-fault
returns-clause-fault c =
    let design = c.args.design.now in
    let r = c.in_ok-recorder.recorder in
    let n = length design.signals.items in
    let is : IsFor design c.args.scope.now c.args.dump.now r = record {
      design_is = c.in_ok-recorder.ensures.design;
      scope_is = c.in_ok-recorder.ensures.scope ∙ c.as_bytes.ensures.value;
      dump_is = c.in_ok-recorder.ensures.text;
    } in
    let marked = subst (λ (l : List SigId). AreMarks n (places l) c.in_ok-inputs.inputs.items) c.deref.ensures.value c.in_ok-inputs.ensures in
    let none = subst (λ (l : List Bool). AreNone (is_marked l) (λ i. not (is_recorded (flat_of r) r.scope.now (text_of r) i)) (length l)) c.deref-2.ensures.value c.in_default.ensures in
    let inputs = inputs_recorded design c.args.scope.now c.args.dump.now r is (places c.in_ok-tops.tops.items) c.in_ok-inputs.inputs.items c.in_ok-tops.ensures.all marked none in
    let holding = subst (λ (l : List SigId). AreMarks n (places l) c.in_ok-marks.marks.items) c.deref-3.ensures.value c.in_ok-marks.ensures in
    let none_stored = subst (λ (l : List Bool). AreNone (is_marked l) (λ i. not (is_recorded (flat_of r) r.scope.now (text_of r) i)) (length l)) c.deref-4.ensures.value c.in_default-first_missing.ensures in
    let stored = stored_recorded design c.args.scope.now c.args.dump.now r is (places c.in_ok-holders.holders.items) c.in_ok-marks.marks.items c.in_ok-holders.ensures.all holding none_stored in
    let of = subst (λ (o : Option Basis). MatchOption o (LacksNetlist (flat design)) (IsBasisOf (flat design))) c.in-Some-2.is c.in_ok-basis.ensures in
    fault design c.args.scope.now c.args.dump.now r is c.in-Some-2.basis of inputs stored c.tell.result c.tell.ensures.fault
