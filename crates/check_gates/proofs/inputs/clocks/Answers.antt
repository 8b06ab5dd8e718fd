use Rattle.std.proofs.Common.{◌≡◌, ◌∙◌, ◌+◌, ◌∷◌, [], true, false, length, ap, replicate, sym, subst, arith, rules}
use Rattle.std.specs.Prelude.{◌↔◌}
use Rattle.std.specs.List.{flat_map}
use Rattle.std.proofs.lemmas.Bool.{both_ways}
use Rattle.std.proofs.lemmas.List.{length-replicate}
use Rattle.rtl_flat.specs.declared.act.Process.{Process}
use Rattle.rtl_flat.specs.Process.{doing}
use Rattle.rtl_flat.specs.Flats.{flat}
use Rattle.check_gates.specs.Latches.{AreClocks}
use Rattle.check_gates.specs.Links.{AreRows}
use Rattle.check_gates.specs.Tops.{AreMarkedAlso}
use Rattle.check_gates.specs.Waits.{AreEdgeMarks, ReachesMarked, waited}
use Rattle.check_gates.proofs.Marking.{clock_is, clock_reaches, clocks_next, clocks_none, clocks_pass}
use Rattle.check_gates.proofs.Waiting.{edge_marks, waits_of, written}
use Rattle.check_gates.proofs.inputs.clocks.Goals as goal
use Rattle.check_gates.proofs.inputs.clocks.Goals.{then-is_top+in_ok-reaches_marked+then-branch, else-is_top, else-is_top-via-then-is_top+in_ok-reaches_marked+else-branch, else-is_top-via-else-is_top}

pub loop-number-init : goal.loop-number-init
loop-number-init c =
    let d = flat c.args.scans.now.design.now in
    let count : c.len-count.result ≡ length d.signals = c.len-count.ensures ∙ c.args.scans.now.design.now.signals.ok.0 in
    clocks_none d c.in_ok-marks.marks.items (c.in_ok-marks.ensures.items_if_clones_equal (λ y e. search rules) ∙ ap (λ n. replicate n false) count)

pub loop-number-preserved : goal.loop-number-preserved
loop-number-preserved c =
    let d = flat c.args.scans.now.design.now in
    let count : c.len-count.result ≡ length d.signals = c.len-count.ensures ∙ c.args.scans.now.design.now.signals.ok.0 in
    let links = c.in_ok-links.links.items in
    let rows = c.in_ok-rows.rows.items in
    let are : AreRows (length d.signals) links rows =
    subst (λ n. AreRows n links rows) count (subst (λ l. AreRows c.len-count.result l rows) c.deref.ensures.value c.in_ok-rows.ensures) in
    let none : c.in_ok-edges.edges.items ≡ replicate (length d.signals) false = c.in_ok-edges.ensures.items_if_clones_equal (λ y e. search rules) ∙ ap (λ n. replicate n false) count in
    let size = ap length none ∙ length-replicate (length d.signals) false in
    let marks = c.mark_all_waited.new.marks in
    let f = λ (process : Process). waited (doing process.does) in
    let waits = ap (flat_map f) c.deref-2.ensures.value ∙ waits_of c.args.scans.now.design.now.processes.items in
    let marked = subst (λ all. AreMarkedAlso all c.in_ok-edges.edges.items marks) waits (subst (λ old. AreMarkedAlso (flat_map f c.deref-2.result.now) old marks) c.deref_mut.ensures.value c.mark_all_waited.ensures) in
    let edges : AreEdgeMarks d marks = edge_marks d c.in_ok-edges.edges.items marks none size marked in
    let whole = written c.in_ok-edges.edges.len marks c.in_ok-edges.edges.items c.in_ok-edges.edges.ok.0 marked.size in
    let n = c.loop-number.number in
    let old = c.loop-number.marks.items in
    elim c.if-is_top.branch [
      | then-is_top+in_ok-reaches_marked+then-branch w ↦
          let b = w.in_ok-reaches_marked.field-0 in
          let by_rows = subst (λ l. b ≡ true ↔ ReachesMarked l w.deref-then-is_top-2.result.now n) w.deref-then-is_top.ensures.value w.in_ok-reaches_marked.ensures in
          let reach : b ≡ true ↔ ReachesMarked rows marks n = subst (λ l. b ≡ true ↔ ReachesMarked rows l n) (w.deref-then-is_top-2.ensures.value ∙ whole) by_rows in
          let clock = clock_is d links rows are c.in_ok-links.ensures marks edges n (sym c.is_top.ensures ∙ w.if-is_top.true) (reach.0 w.if-branch.true) in
          let new = w.mark.new.marks in
          let also = subst (λ l. AreMarkedAlso (n ∷ []) l new) w.deref_mut-then-branch.ensures.value w.mark.ensures in
          subst (λ (v : _). AreClocks d (n + 1) v.items) (sym w.marks-is)
          (subst (AreClocks d (n + 1)) (sym (written c.loop-number.marks.len new old c.loop-number.marks.ok.0 also.size)) (clocks_next d n old new c.loop-number.invariant clock also))
      | else-is_top w ↦
          subst (λ (v : _). AreClocks d (n + 1) v.items) (sym w.marks-is)
          (elim w.else-is_top.branch [
            | else-is_top-via-then-is_top+in_ok-reaches_marked+else-branch v ↦
                let b = v.in_ok-reaches_marked.field-0 in
                let by_rows = subst (λ l. b ≡ true ↔ ReachesMarked l v.deref-then-is_top-2.result.now n) v.deref-then-is_top.ensures.value v.in_ok-reaches_marked.ensures in
                let reach : b ≡ true ↔ ReachesMarked rows marks n = subst (λ l. b ≡ true ↔ ReachesMarked rows l n) (v.deref-then-is_top-2.ensures.value ∙ whole) by_rows in
                clocks_pass d n old c.loop-number.invariant (λ is. both_ways b v.if-branch.false (reach.1 (clock_reaches d links rows are c.in_ok-links.ensures marks edges n is)))
            | else-is_top-via-else-is_top v ↦
                clocks_pass d n old c.loop-number.invariant (λ is. both_ways c.is_top.result v.if-is_top.false (c.is_top.ensures ∙ is.input))
          ])
    ]

pub returns : goal.returns
returns c =
    let d = flat c.args.scans.now.design.now in
    let count : c.len-count.result ≡ length d.signals = c.len-count.ensures ∙ c.args.scans.now.design.now.signals.ok.0 in
    let past = c.loop-number-test.false in
    let most = c.loop-number.auto.number-end in
    subst (λ n. AreClocks d n c.loop-number.marks.items) (omega (arith, past, most, count)) c.loop-number.invariant
