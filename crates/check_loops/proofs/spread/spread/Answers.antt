use Rattle.std.proofs.Common.{◌≡◌, ◌∙◌, ◌<◌, ◌||◌, length, ap, sym, arith}
use Rattle.check_found.specs.rtl_scan.Graph.{row}
use Rattle.check_found.proofs.rtl_scan_proofs.Advances.{row_get}
use Rattle.check_loops.specs.Rounds.{is_fed}
use Rattle.check_loops.proofs.Spreading.{spread_more}
use Rattle.check_loops.proofs.spread.spread.Goals.{then-grown, else-grown}
use Rattle.check_loops.proofs.spread.spread.Goals as goal

pub loop-node-preserved : goal.loop-node-preserved
loop-node-preserved c =
    let rows = c.args.rows.now in
    let start = c.args.start in
    let node = c.loop-node.node in
    let old = c.args.marks.now.items in
    let cur = c.loop-node.marks.items in
    let grown = c.loop-node.grown in
    let marked = c.mark-marked.result in
    let len = c.loop-node.invariant.same_length in
    let inside : node < length cur = omega arith in
    let same = c.deref-in-loop-node.ensures.value ∙ (ap (λ v. v.items) c.index-rows-node.is ∙ row_get rows node c.index-rows-node.result c.loop-node-test.true) in
    let fed_is : c.is_fed-fed.result ≡ is_fed start cur (row rows node)
    = c.is_fed-fed.ensures ∙ (ap (λ ms. is_fed start ms c.deref-in-loop-node.result.now) c.deref.ensures.value ∙ ap (λ xs. is_fed start cur xs) same) in
    let next_is : c.if-grown.grown ≡ (grown || marked)
    = elim c.if-grown.branch as (λ _. c.if-grown.grown ≡ (grown || marked)) [
      | then-grown w ↦ w.grown-is ∙ (w.if-grown.true ∙ sym (ap (λ b. b || marked) w.if-grown.true))
      | else-grown w ↦ w.grown-is ∙ sym (ap (λ b. b || marked) w.if-grown.false)
    ] in
    spread_more rows start node old cur c.mark-marked.new.marks.items grown c.loop-node.invariant inside c.is_fed-fed.result marked fed_is c.mark-marked.ensures c.if-grown.grown next_is
