use Rattle.std.proofs.Common.{◌≡◌, ◌∙◌, Bool, false, List, ap, length, replicate, subst, sym, rules}
use Rattle.std.proofs.lemmas.List.{length-replicate}
use Rattle.netlist_eval.specs.check_gates.Tops.{AreMarkedAlso}
use Rattle.netlist_eval.specs.net_start.Stored.{places}
use Rattle.netlist_eval.proofs.check_gates_proofs.Waiting.{written}
use Rattle.vcd_check.specs.Checks.{AreMarks}
use Rattle.vcd_check.proofs.Marking.{are_marks}
use Rattle.vcd_check.proofs.marks.marks_of.Goals as goal

pub returns : goal.returns
returns c =
    let design = c.args.design.now in
    let n = length design.signals.items in
    let signals = places c.args.signals.now in
    let old = c.in_ok-marks.marks.items in
    let marks = c.mark_all.new.marks in
    let none : old ≡ replicate n false = c.in_ok-marks.ensures.items_if_clones_equal (λ y e. search rules) ∙ ap (λ m. replicate m false) (c.len.ensures ∙ design.signals.ok.0) in
    let size : length old ≡ n = ap length none ∙ length-replicate n false in
    let marked : AreMarkedAlso signals old marks =
    subst (λ all. AreMarkedAlso all old marks) (c.deref.ensures.value ∙ c.in_ok-places.ensures)
    (subst (λ l. AreMarkedAlso c.deref.result.now l marks) c.deref_mut.ensures.value c.mark_all.ensures) in
    subst (λ (l : List Bool). AreMarks n signals l) (sym (written c.in_ok-marks.marks.len marks old c.in_ok-marks.marks.ok.0 marked.size))
    (are_marks n signals old marks none size marked)
