use Rattle.std.proofs.Common.{◌∙◌, sym, ap}
use Rattle.std.specs.Ordering.{nat_cmp}
use Rattle.std.specs.BTreeMap.{get}
use Rattle.std.proofs.lemmas.Bool.{ne_eqb}
use Rattle.std.proofs.lemmas.Result.{on_ok_weaker}
use Rattle.rtl_flat.specs.Process.{selection}
use Rattle.rtl_rule.specs.Parts.{spot_if}
use Rattle.rtl_flat.specs.Flats.{flat, widths}
use Rattle.check_loops.specs.check_found.Marked.{joined}
use Rattle.check_assign.proofs.Hits.{part_none, part_some}
use Rattle.check_loops.proofs.check_found_proofs.Places.{joined-none, joined_if}
use Rattle.check_assign.proofs.targets.note_part.Goals as goal

pub returns-then-row-eq0 : goal.returns-then-row-eq0
returns-then-row-eq0 c = λ s.
    let old = get nat_cmp c.args.marks.now.spots s in
    sym (ap (λ b. joined old (spot_if b c.args.part.now.spot)) (part_none (widths (flat c.args.design.now)) c.args.part.now.signal.0 (selection c.args.part.now.select) c.selected-row.result c.selected-row.ensures c.if-row-eq0.true s) ∙ joined-none old)

pub returns : goal.returns
returns c =
    let part = c.args.part.now in
    on_ok_weaker c.note.result (λ are s.
    let old = get nat_cmp c.args.marks.now.spots s in
    are s ∙ joined_if _ old part.spot
    ∙ ap (λ b. joined old (spot_if b part.spot)) (sym (part_some (widths (flat c.args.design.now)) part.signal.0 (selection part.select) c.selected-row.result c.selected-row.ensures (ne_eqb c.selected-row.result.mask 0 c.if-row-eq0.false) s)))
    c.note.ensures
