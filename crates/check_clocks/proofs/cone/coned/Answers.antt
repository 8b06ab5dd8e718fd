use Rattle.std.proofs.Common.{◌≡◌, ◌∙◌, ◌+◌, true, false, get_or, length, ap, replicate, sym, subst, rules}
use Rattle.std.specs.Prelude.{◌↔◌}
use Rattle.std.specs.List.{flat_map}
use Rattle.std.proofs.lemmas.List.{length-replicate}
use Rattle.rtl_flat.specs.declared.act.Process.{Process}
use Rattle.rtl_flat.specs.Process.{doing}
use Rattle.rtl_flat.specs.Flats.{flat}
use Rattle.net_model.specs.Gates.{IsGateInput}
use Rattle.check_clocks.specs.Cone.{AreConed, IsSpread}
use Rattle.check_gates.specs.Waits.{AreEdgeMarks, waited}
use Rattle.check_gates.specs.Links.{AreRows}
use Rattle.check_gates.specs.Tops.{AreMarkedAlso}
use Rattle.check_clocks.proofs.Coned.{coned_next, coned_none, coned_pass, gate_marked}
use Rattle.check_gates.proofs.Waiting.{edge_marks, waits_of, written}
use Rattle.check_clocks.proofs.cone.coned.Goals as goal
use Rattle.check_clocks.proofs.cone.coned.Goals.{then-is_top+in_ok-spread, else-is_top}

pub loop-top-init : goal.loop-top-init
loop-top-init c =
    let d = flat c.args.scans.now.design.now in
    let count : c.len-count.result ≡ length d.signals = c.len-count.ensures ∙ c.args.scans.now.design.now.signals.ok.0 in
    let none : c.in_ok-cone.cone.items ≡ replicate (length d.signals) false = c.in_ok-cone.ensures.items_if_clones_equal (λ y e. search rules) ∙ ap (λ n. replicate n false) count in
    coned_none d c.in_ok-cone.cone.items none (ap length none ∙ length-replicate (length d.signals) false)

pub loop-top-preserved : goal.loop-top-preserved
loop-top-preserved c =
    let d = flat c.args.scans.now.design.now in
    let count : c.len-count.result ≡ length d.signals = c.len-count.ensures ∙ c.args.scans.now.design.now.signals.ok.0 in
    let links = c.in_ok-links.links.items in
    let rows = c.in_ok-rows.rows.items in
    let are : AreRows (length d.signals) links rows =
    subst (λ n. AreRows n links rows) count (subst (λ l. AreRows c.len-count.result l rows) c.deref.ensures.value c.in_ok-rows.ensures) in
    let none : c.in_ok-edges.edges.items ≡ replicate (length d.signals) false = c.in_ok-edges.ensures.items_if_clones_equal (λ y e. search rules) ∙ ap (λ n. replicate n false) count in
    let size = ap length none ∙ length-replicate (length d.signals) false in
    let marks = c.mark_all_waited.new.marks in
    let f = λ (process : Process). waited (doing process.does) in
    let waits = ap (flat_map f) c.deref-2.ensures.value ∙ waits_of c.args.scans.now.design.now.processes.items in
    let marked = subst (λ all. AreMarkedAlso all c.in_ok-edges.edges.items marks) waits (subst (λ old. AreMarkedAlso (flat_map f c.deref-2.result.now) old marks) c.deref_mut.ensures.value c.mark_all_waited.ensures) in
    let edges : AreEdgeMarks d marks = edge_marks d c.in_ok-edges.edges.items marks none size marked in
    elim c.if-is_top.branch [
      | then-is_top+in_ok-spread w ↦
          let top = c.loop-top.top in
          let old = c.loop-top.cone.items in
          let new = w.spread.new.cone in
          let gate = w.is_marked-gate.result in
          let marked_gate = w.is_marked-gate.ensures ∙ ap (λ l. get_or l top false) w.deref-then-is_top.ensures.value in
          let is_gate : gate ≡ true ↔ IsGateInput d top = gate_marked d c.in_ok-inputs.inputs.items top gate marked_gate (c.in_ok-inputs.ensures.each top) in
          let by_rows = subst (λ l. IsSpread l w.deref-then-is_top-3.result.now gate top w.deref_mut-then-is_top.result.now new) w.deref-then-is_top-2.ensures.value w.in_ok-spread.ensures in
          let by_edges = subst (λ l. IsSpread rows l gate top w.deref_mut-then-is_top.result.now new) (w.deref-then-is_top-3.ensures.value ∙ written c.in_ok-edges.edges.len marks c.in_ok-edges.edges.items c.in_ok-edges.edges.ok.0 marked.size) by_rows in
          let spread = subst (λ l. IsSpread rows marks gate top l new) w.deref_mut-then-is_top.ensures.value by_edges in
          let next = coned_next d links rows are c.in_ok-links.ensures marks edges top gate is_gate old new c.loop-top.invariant (sym c.is_top.ensures ∙ w.if-is_top.true) spread in
          subst (λ (v : _). AreConed d (top + 1) v.items) (sym w.cone-is)
          (subst (AreConed d (top + 1)) (sym (written c.loop-top.cone.len new old c.loop-top.cone.ok.0 spread.size)) next)
      | else-is_top w ↦
          subst (λ (v : _). AreConed d (c.loop-top.top + 1) v.items) (sym w.cone-is)
          (coned_pass d c.loop-top.top c.loop-top.cone.items c.loop-top.invariant (sym c.is_top.ensures ∙ w.if-is_top.false))
    ]
