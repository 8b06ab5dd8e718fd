use Rattle.std.proofs.Common.{◌∙◌, ◌<◌, List, ℕ, length, get_or, ap, sym, subst, arith}
use Rattle.check_found.specs.rtl_scan.Graph.{row, ArrowIn}
use Rattle.check_found.proofs.rtl_scan_proofs.Advances.{row_get}
use Rattle.check_loops.proofs.Grouping.{lead_before, sound_take}
use Rattle.check_loops.proofs.groups.Search.follow.Goals as goal

pub loop-from-preserved : goal.loop-from-preserved
loop-from-preserved c =
    let rows = c.args.rows.now in
    let node = c.args.node in
    let i = c.loop-from.from-index in
    let there : node < length rows = omega arith in
    let same = c.deref-from-items.ensures.value ∙ (ap (λ v. v.items) c.index-rows-place.is ∙ row_get rows node c.index-rows-place.result there) in
    let start = get_or c.deref-from-items.result.now i 0 in
    let below : i < length (row rows node) = subst (λ (xs : List ℕ). i < length xs) same c.loop-from-test.true in
    let arrow : ArrowIn rows start node = (i, below, ap (λ xs. get_or xs i 0) (sym same)) in
    sound_take rows start c.args.group c.loop-from.self c.take.new.self c.in_ok-take.ensures c.loop-from.invariant
    (lead_before rows start node c.args.group.root arrow c.requires.leads)
