use Rattle.std.proofs.Common.{◌≡◌, ◌∙◌, ◌+◌, ◌||◌, ◌&&◌, not, drop, get_or, sym, ap}
use Rattle.check_found.specs.rtl_scan.Sets.{has, has_row, has_rows}
use Rattle.net_start.proofs.Keeping.{rows_from, spread}
use Rattle.net_start.proofs.kept.add_left.Goals as goal

pub loop-row-preserved : goal.loop-row-preserved
loop-row-preserved c = λ s k.
    let rows = c.args.rows.now in
    let i = c.loop-row.row-index in
    let row = get_or rows i (record { signal = record { 0 = 0 }; mask = 0 }) in
    let sure = has c.args.sure.now.masks s k in
    let old = has c.loop-row.bits.masks s k in
    let rest = has_rows (drop (i + 1) rows) s k in
    let left : has_row c.lacks.result s k ≡ (has_row row s k && not sure) = c.lacks.ensures s k in
    ap (λ b. b || (rest && not sure)) (c.in_ok-insert.ensures s k ∙ ap (λ b. old || b) left)
    ∙ (spread old (has_row row s k) rest sure
    ∙ (ap (λ b. old || (b && not sure)) (sym (rows_from rows i c.loop-row-test.true s k)) ∙ c.loop-row.invariant s k))
