use Rattle.std.proofs.Common.{ℕ, ◌≡◌, length, subst, arith}
use Rattle.rtl_flat.specs.Flats.{flat, widths}
use Rattle.rtl_flat.specs.Process.{task}
use Rattle.rtl_scan.specs.Arrows.{AreWriters}
use Rattle.rtl_scan.proofs.Processes.{length-tasks}
use Rattle.rtl_scan.proofs.Feeding.{found, writers_none, writers_more}
use Rattle.rtl_scan.proofs.feeds.Accessed.writers.Goals as goal

pub loop-number-init : goal.loop-number-init
loop-number-init c =
    let d = flat c.args.self.now.design.now in
    writers_none (widths d) d.tasks c.new-table.result.items c.new-table.ensures.items

pub loop-number-preserved : goal.loop-number-preserved
loop-number-preserved c =
    let d = flat c.args.self.now.design.now in
    let n = c.loop-number.number in
    let (one, at, there) = found c.args.self.now.design.now.processes.items n (omega arith) in
    writers_more (widths d) d.tasks n (task one) there c.loop-number.table.items c.note_writes.new.table.items c.loop-number.invariant (c.in_ok-note_writes.ensures (task one) there)

pub returns : goal.returns
returns c =
    let d = flat c.args.self.now.design.now in
    let count = length-tasks c.args.self.now.design.now.processes.items in
    let e : c.loop-number.number ≡ length d.tasks = omega arith in
    subst (λ (n : ℕ). AreWriters (widths d) d.tasks n c.loop-number.table.items) e c.loop-number.invariant
