use Rattle.std.proofs.Common.{◌≡◌, ◌∙◌, Bool, false, List, ap, length, replicate, subst, sym, rules}
use Rattle.std.specs.Prelude.{◌↔◌, true, slice_index_or, ℕ}
use Rattle.std.proofs.lemmas.List.{length-replicate}
use Rattle.rtl_flat.specs.Flats.{flat}
use Rattle.net_model.specs.Gates.{IsControl}
use Rattle.net_start.specs.Stored.{places}
use Rattle.infer_regs.specs.check_gates.Tops.{AreMarkedAlso}
use Rattle.infer_regs.proofs.check_gates_proofs.Waiting.{written}
use Rattle.netlist_eval.proofs.Marked.{are_marked}
use Rattle.netlist_eval.proofs.basis.marked_controls.Goals as goal

pub returns : goal.returns
returns c =
    let design = c.args.design.now in
    let n = length design.signals.items in
    let found = c.in_ok-found.found.items in
    let old = c.in_ok-marks.marks.items in
    let marks = c.mark_all.new.marks in
    let none : old ≡ replicate n false = c.in_ok-marks.ensures.items_if_clones_equal (λ y e. search rules) ∙ ap (λ m. replicate m false) (c.len.ensures ∙ design.signals.ok.0) in
    let size : length old ≡ n = ap length none ∙ length-replicate n false in
    let are_places = c.deref-2.ensures.value ∙ (c.in_ok-places.ensures ∙ ap places c.deref.ensures.value) in
    let marked : AreMarkedAlso (places found) old marks =
    subst (λ all. AreMarkedAlso all old marks) are_places (subst (λ l. AreMarkedAlso c.deref-2.result.now l marks) c.deref_mut.ensures.value c.mark_all.ensures) in
    let here = are_marked design old marks (places found) none size c.in_ok-found.ensures marked in
    subst (λ (l : List Bool). (s : ℕ) → slice_index_or l s false ≡ true ↔ IsControl (flat design) s) (sym (written c.in_ok-marks.marks.len marks old c.in_ok-marks.marks.ok.0 marked.size)) here
