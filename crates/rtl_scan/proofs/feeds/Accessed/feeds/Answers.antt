use Rattle.std.proofs.Common.{ℕ, ◌≡◌, length, replicate, subst, arith, rules}
use Rattle.rtl_flat.specs.Flats.{flat, widths}
use Rattle.rtl_flat.specs.Process.{task}
use Rattle.rtl_scan.specs.Arrows.{AreFed}
use Rattle.rtl_scan.proofs.Processes.{length-tasks}
use Rattle.rtl_scan.proofs.Feeding.{fed_none, fed_more, found}
use Rattle.rtl_scan.proofs.feeds.Accessed.feeds.Goals as goal

pub loop-number-init : goal.loop-number-init
loop-number-init c =
    let d = flat c.args.self.now.design.now in
    let zeros : c.in_ok-seen.seen.items ≡ replicate c.len.result 0 = c.in_ok-seen.ensures.items_if_clones_equal (λ y e. search rules) in
    fed_none c.args.waits (widths d) d.tasks c.args.table.now c.new-rows.result.items c.in_ok-seen.seen.items c.len.result c.new-rows.ensures.items zeros

pub loop-number-preserved : goal.loop-number-preserved
loop-number-preserved c =
    let d = flat c.args.self.now.design.now in
    let n = c.loop-number.number in
    let (one, at, there) = found c.args.self.now.design.now.processes.items n (omega arith) in
    fed_more c.args.waits (widths d) d.tasks c.args.table.now n (task one) there c.loop-number.rows.items c.push.new.self.items c.loop-number.seen.items c.in_ok-found.found c.loop-number.invariant (c.in_ok-found.ensures (task one) there) c.in_ok-push.ensures.items

pub returns : goal.returns
returns c =
    let d = flat c.args.self.now.design.now in
    let count = length-tasks c.args.self.now.design.now.processes.items in
    subst (λ (n : ℕ). AreFed c.args.waits (widths d) d.tasks c.args.table.now n c.loop-number.rows.items) (let e : c.loop-number.number ≡ length d.tasks = omega arith in e) c.loop-number.invariant.0
