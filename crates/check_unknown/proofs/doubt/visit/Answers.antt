use Rattle.std.proofs.Common.{◌∙◌, ◌<◌, List, sym, ap, length, arith}
use Rattle.std.proofs.lemmas.Result.{on_ok_weaker}
use Rattle.rtl_flat.specs.Flats.{flat}
use Rattle.check_chains.specs.rtl_scan.declared.bits.Row.{Row}
use Rattle.check_chains.specs.rtl_scan.Usage.{has_row_of}
use Rattle.check_unknown.specs.Spreading.{writes}
use Rattle.check_unknown.proofs.Spreading.{marks_as, visited, writes_are}
use Rattle.check_unknown.proofs.doubt.visit.Goals as goal

pub returns : goal.returns
returns c =
    let d = flat c.args.scans.now.design.now in
    let inside : c.args.p.0 < length c.args.seen.now = omega (arith, c.requires.there, c.requires.seen) in
    on_ok_weaker c.mark_rows.result
    (λ h. visited d c.args.p.0 c.args.seen.now c.args.spread.now c.mark_rows.new.self c.requires.reader inside
    (λ task there. marks_as (has_row_of c.deref.result.now) (writes d task) c.args.spread.now c.mark_rows.new.self (λ s. writes_are d task c.written.result.now.rows.items (c.written.ensures.bits task there) c.written.ensures.order s ∙ ap (λ (rows : List Row). has_row_of rows s) (sym c.deref.ensures.value)) h))
    c.mark_rows.ensures
