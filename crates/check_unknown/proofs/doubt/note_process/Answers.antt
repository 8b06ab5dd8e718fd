use Rattle.std.proofs.Common.{◌∙◌, List, sym, ap}
use Rattle.std.proofs.lemmas.Result.{on_ok_weaker}
use Rattle.rtl_flat.specs.Flats.{flat}
use Rattle.check_chains.specs.rtl_scan.declared.bits.Row.{Row}
use Rattle.check_chains.specs.rtl_scan.Usage.{has_row_of}
use Rattle.check_unknown.specs.Spreading.{reads}
use Rattle.check_unknown.proofs.Worklist.{notes_as, reads_are}
use Rattle.check_unknown.proofs.doubt.note_process.Goals as goal

pub returns : goal.returns
returns c =
    let d = flat c.args.scans.now.design.now in
    on_ok_weaker c.note_rows.result
    (λ h. λ task there. notes_as (has_row_of c.deref.result.now) (reads d task) c.args.p.0 c.args.table.now.items c.note_rows.new.table.items (λ s. reads_are d task c.read_outside.result.now.rows.items (c.read_outside.ensures.bits task there) c.read_outside.ensures.order s ∙ ap (λ (rows : List Row). has_row_of rows s) (sym c.deref.ensures.value)) h)
    c.note_rows.ensures
