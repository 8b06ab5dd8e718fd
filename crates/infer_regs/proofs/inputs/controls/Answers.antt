use Rattle.std.proofs.Common.{◌≡◌, ◌∙◌, ◌≤◌, ◌+◌, true, false, get_or, length, map, ◌∷◌, [], ap, replicate, sym, subst, arith, rules}
use Rattle.std.specs.Prelude.{◌↔◌}
use Rattle.std.specs.List.{flat_map}
use Rattle.std.proofs.lemmas.List.{length-replicate, map-append}
use Rattle.rtl_flat.specs.declared.act.Process.{Process}
use Rattle.rtl_flat.specs.declared.expr.SigId.{SigId}
use Rattle.rtl_flat.specs.Process.{doing}
use Rattle.rtl_flat.specs.Flats.{flat}
use Rattle.net_model.specs.Gates.{IsGateInput}
use Rattle.net_list.specs.check_clocks.Cone.{ReachesControl}
use Rattle.net_list.specs.check_gates.Admitted.{AreGates, gates_of}
use Rattle.net_list.specs.check_gates.Waits.{AreEdgeMarks, waited}
use Rattle.net_list.specs.check_gates.Passed.{ArePassing}
use Rattle.net_list.specs.check_gates.Links.{AreRows}
use Rattle.net_list.specs.check_gates.Tops.{AreMarkedAlso}
use Rattle.net_list.proofs.check_clocks_proofs.Coned.{gate_marked}
use Rattle.net_list.proofs.check_gates_proofs.Waiting.{edge_marks, waits_of, written}
use Rattle.infer_regs.proofs.Controlling.{AreBelow, all_controls, control_is, control_reaches, no_top, pass_one, push_one}
use Rattle.infer_regs.proofs.Judging.{refuted}
use Rattle.infer_regs.proofs.inputs.controls.Goals as goal
use Rattle.infer_regs.proofs.inputs.controls.Goals.{then-is_top+in_ok-reaches_control+then-branch+in_ok-push, else-is_top, else-is_top-via-then-is_top+in_ok-reaches_control+else-branch, else-is_top-via-else-is_top}

pub gate_inputs-requires : goal.gate_inputs-requires
gate_inputs-requires c =
    subst (λ all. AreGates (flat c.args.design.now) (gates_of all)) (sym c.deref-3.ensures.value)
    (subst (λ d. AreGates (flat d) (gates_of c.in_ok-gates.gates.items)) c.in_ok-scans.ensures.design c.in_ok-gates.ensures)

pub loop-number-preserved : goal.loop-number-preserved
loop-number-preserved c =
    let d = flat c.args.design.now in
    let count : c.len-count.result ≡ length d.signals = c.len-count.ensures ∙ c.args.design.now.signals.ok.0 in
    let links = c.in_ok-links.links.items in
    let passing = subst (λ d. ArePassing (flat d) (length (flat d).tasks) links) c.in_ok-scans.ensures.design c.in_ok-links.ensures in
    let rows = c.in_ok-rows.rows.items in
    let are : AreRows (length d.signals) links rows =
    subst (λ n. AreRows n links rows) count (subst (λ l. AreRows c.len-count.result l rows) c.deref.ensures.value c.in_ok-rows.ensures) in
    let none : c.in_ok-edges.edges.items ≡ replicate (length d.signals) false = c.in_ok-edges.ensures.items_if_clones_equal (λ y e. search rules) ∙ ap (λ n. replicate n false) count in
    let size = ap length none ∙ length-replicate (length d.signals) false in
    let marks = c.mark_all_waited.new.marks in
    let f = λ (process : Process). waited (doing process.does) in
    let waits = ap (flat_map f) c.deref-2.ensures.value ∙ waits_of c.args.design.now.processes.items in
    let marked = subst (λ all. AreMarkedAlso all c.in_ok-edges.edges.items marks) waits (subst (λ old. AreMarkedAlso (flat_map f c.deref-2.result.now) old marks) c.deref_mut.ensures.value c.mark_all_waited.ensures) in
    let edges : AreEdgeMarks d marks = edge_marks d c.in_ok-edges.edges.items marks none size marked in
    let n = c.loop-number.number in
    let name = λ (one : SigId). one.0 in
    let old = c.loop-number.found.items in
    let gate = c.is_marked-gate.result in
    let marked_gate = c.is_marked-gate.ensures ∙ ap (λ l. get_or l n false) c.deref-in-loop-number.ensures.value in
    let is_gate : gate ≡ true ↔ IsGateInput d n = gate_marked d c.in_ok-inputs.inputs.items n gate marked_gate (c.in_ok-inputs.ensures.each n) in
    let whole = written c.in_ok-edges.edges.len marks c.in_ok-edges.edges.items c.in_ok-edges.edges.ok.0 marked.size in
    elim c.if-is_top.branch [
      | then-is_top+in_ok-reaches_control+then-branch+in_ok-push w ↦
          let b = w.in_ok-reaches_control.field-0 in
          let by_rows = subst (λ l. b ≡ true ↔ ReachesControl l w.deref-then-is_top-2.result.now gate n) w.deref-then-is_top.ensures.value w.in_ok-reaches_control.ensures in
          let reach : b ≡ true ↔ ReachesControl rows marks gate n = subst (λ l. b ≡ true ↔ ReachesControl rows l gate n) (w.deref-then-is_top-2.ensures.value ∙ whole) by_rows in
          let control = control_is d links rows are passing marks edges n gate is_gate (sym c.is_top.ensures ∙ w.if-is_top.true) (reach.0 w.if-branch.true) in
          subst (λ (v : _). AreBelow d (n + 1) (map name v.items)) (sym w.found-is)
          (push_one d n (map name old) (map name w.push.new.self.items) c.loop-number.invariant control (ap (map name) w.in_ok-push.ensures.items ∙ map-append name old (record { 0 = n } ∷ [])))
      | else-is_top w ↦
          subst (λ (v : _). AreBelow d (n + 1) (map name v.items)) (sym w.found-is)
          (elim w.else-is_top.branch [
            | else-is_top-via-then-is_top+in_ok-reaches_control+else-branch v ↦
                let b = v.in_ok-reaches_control.field-0 in
                let by_rows = subst (λ l. b ≡ true ↔ ReachesControl l v.deref-then-is_top-2.result.now gate n) v.deref-then-is_top.ensures.value v.in_ok-reaches_control.ensures in
                let reach : b ≡ true ↔ ReachesControl rows marks gate n = subst (λ l. b ≡ true ↔ ReachesControl rows l gate n) (v.deref-then-is_top-2.ensures.value ∙ whole) by_rows in
                pass_one d n (map name old) c.loop-number.invariant (λ is. refuted b reach v.if-branch.false (control_reaches d links rows are passing marks edges n gate is_gate is))
            | else-is_top-via-else-is_top v ↦
                pass_one d n (map name old) c.loop-number.invariant (no_top d n (sym c.is_top.ensures ∙ v.if-is_top.false))
          ])
    ]

pub returns : goal.returns
returns c =
    let d = flat c.args.design.now in
    let count : c.len-count.result ≡ length d.signals = c.len-count.ensures ∙ c.args.design.now.signals.ok.0 in
    let past : length d.signals ≤ c.loop-number.number = omega (arith, count) in
    all_controls d c.loop-number.number (map (λ (one : SigId). one.0) c.loop-number.found.items) c.loop-number.invariant past
