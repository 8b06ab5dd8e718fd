use Rattle.rtl_scan.proofs.Advances.{searched_none, searched_more}
use Rattle.rtl_scan.proofs.graph.Search.all.Goals as goal

pub loop-start-init : goal.loop-start-init
loop-start-init c =
    searched_none c.args.rows.now c.in_ok-search.search c.in_ok-search.ensures.0 c.in_ok-search.ensures.1 c.in_ok-search.ensures.2

pub loop-start-preserved : goal.loop-start-preserved
loop-start-preserved c =
    searched_more c.args.rows.now c.loop-start.start c.loop-start.search c.visit.new.self c.loop-start.invariant c.in_ok-visit.ensures
