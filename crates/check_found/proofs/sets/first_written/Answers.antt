use Rattle.std.proofs.Common.{◌∙◌, sym}
use Rattle.rtl_rule.specs.Parts.{written}
use Rattle.rtl_flat.specs.Flats.{flat, widths}
use Rattle.check_found.proofs.Inside.{written_inside}
use Rattle.check_found.proofs.Signals.{AreRows, first_row}
use Rattle.check_found.proofs.sets.first_written.Goals as goal

pub returns : goal.returns
returns c = λ task there.
    let d = flat c.args.design.now in
    let rows = c.in_ok-bits.bits.rows.items in
    let are : AreRows (widths d) (written d task.does) rows =
    record { order = c.in_ok-bits.ensures.order; same = c.in_ok-bits.ensures.bits task there; inside = written_inside (widths d) task.does } in
    c.first_signal.ensures ∙ sym (first_row d (written d task.does) rows are)
