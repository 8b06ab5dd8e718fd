use Rattle.std.proofs.Common.{◌∙◌, sym}
use Rattle.rtl_rule.specs.Parts.{written}
use Rattle.rtl_flat.specs.Flats.{flat, widths}
use Rattle.check_found.proofs.Inside.{written_inside}
use Rattle.check_found.proofs.Signals.{AreRows, first_row}
use Rattle.check_found.proofs.scans.Scans.first_written.Goals as goal

pub returns : goal.returns
returns c = λ task there.
    let d = flat c.args.self.now.design.now in
    let rows = c.written.result.now.rows.items in
    let are : AreRows (widths d) (written d task.does) rows =
    record { order = c.written.ensures.order; same = c.written.ensures.bits task there; inside = written_inside (widths d) task.does } in
    c.first_signal.ensures ∙ sym (first_row d (written d task.does) rows are)
