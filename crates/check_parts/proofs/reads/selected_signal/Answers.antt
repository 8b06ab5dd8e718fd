use Rattle.std.proofs.Common.{◌∙◌, ◌&&◌, not, ap}
use Rattle.std.specs.Prelude.{◌==◌}
use Rattle.std.proofs.lemmas.Bool.{eq-eqb, ne_eqb}
use Rattle.rtl_flat.specs.Flats.{flat, widths}
use Rattle.rtl_flat.specs.Process.{selection}
use Rattle.check_parts.proofs.OwnReads.{row_selects}
use Rattle.check_parts.proofs.reads.selected_signal.Goals as goal

pub returns-then-selected-eq0 : goal.returns-then-selected-eq0
returns-then-selected-eq0 c = λ s.
    row_selects (widths (flat c.args.design.now)) c.args.signal.0 (selection c.args.select.now) c.selected.result c.selected.ensures s
    ∙ ap (λ b. not b && (c.args.signal.0 == s)) (eq-eqb c.selected.result.mask 0 c.if-selected-eq0.true)

pub returns : goal.returns
returns c = λ s.
    row_selects (widths (flat c.args.design.now)) c.args.signal.0 (selection c.args.select.now) c.selected.result c.selected.ensures s
    ∙ ap (λ b. not b && (c.args.signal.0 == s)) (ne_eqb c.selected.result.mask 0 c.if-selected-eq0.false)
