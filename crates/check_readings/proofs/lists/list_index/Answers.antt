use Rattle.std.proofs.Common.{◌≡◌, ◌<◌, length, get_or, ap, arith}
use Rattle.rtl_flat.specs.Flats.{flat}
use Rattle.rtl_flat.specs.Process.{task}
use Rattle.rtl_rule.specs.Parts.{items_of}
use Rattle.check_found.proofs.Sites.{next_below, task_at}
use Rattle.check_readings.specs.Readings.{IsListIndex, list_index_at}
use Rattle.check_readings.proofs.Telling.{gets_items}
use Rattle.check_readings.proofs.lists.list_index.Goals as goal

pub loop-process-preserved : goal.loop-process-preserved
loop-process-preserved c =
    let design = c.args.design.now in
    let n = c.loop-process.process-index in
    let process = c.process-item.result in
    let below : n < length design.processes.items = omega (arith, ap length c.deref-process-items.ensures.value) in
    let is : process ≡ get_or design.processes.items n process = cc (c.process-item.is, c.deref-process-items.ensures.value) in
    next_below IsListIndex list_index_at items_of (flat design) n (task process) c.loop-process.found.items c.push_items.new.found.items (task_at design n process below is) c.loop-process.invariant
    (gets_items n (task process) c.loop-process.found.items c.push_items.new.found.items (c.in_ok-push_items.ensures n))
