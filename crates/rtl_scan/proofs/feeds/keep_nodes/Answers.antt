use Rattle.std.proofs.Common.{◌∙◌, None, get_or, sym, ap}
use Rattle.rtl_flat.specs.Process.{doing}
use Rattle.rtl_scan.specs.Arrows.{is_node, level_of}
use Rattle.rtl_scan.proofs.Feeding.{kept_more}
use Rattle.rtl_scan.proofs.feeds.keep_nodes.Goals as goal

pub loop-number-preserved : goal.loop-number-preserved
loop-number-preserved c =
    let n = c.loop-number.number in
    let one = c.index-processes-number in
    kept_more c.args.processes.now c.args.depths.now n c.loop-number.levels.items c.push.new.self.items one.result None c.level_of.result c.requires c.loop-number-test.true one.is
    (c.level_of.ensures ∙ ap (λ x. level_of (is_node (doing x.does)) (get_or c.args.depths.now n None)) (sym one.is))
    c.in_ok-push.ensures.items c.loop-number.invariant
