use Rattle.std.proofs.Common.{◌≡◌, ◌∙◌, ◌+◌, ◌<◌, length, arith}
use Rattle.rtl_scan.proofs.Tables.{grow_more}
use Rattle.rtl_scan.proofs.arrows.grow.Goals as goal

pub loop-alloc-preserved : goal.loop-alloc-preserved
loop-alloc-preserved c =
    let len : c.len.result ≡ length c.loop-alloc.table.items = c.len.ensures ∙ c.loop-alloc.table.ok.0 in
    let test = c.loop-alloc-test.true in
    let less : length c.loop-alloc.table.items < c.args.place + 1 = omega arith in
    grow_more c.args.table.now.items c.loop-alloc.table.items c.push.new.self.items c.new.result (c.args.place + 1) c.in_ok-push.ensures.items c.new.ensures.items less c.loop-alloc.invariant
