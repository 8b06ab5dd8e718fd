use Rattle.std.proofs.Common.{◌≡◌, ◌<◌, length, get_or, ap, arith}
use Rattle.rtl_flat.specs.Flats.{flat}
use Rattle.rtl_flat.specs.Process.{task}
use Rattle.check_found.proofs.Sites.{next_below, task_at}
use Rattle.check_readings.specs.Readings.{IsWholeSelect, amounts, whole_select_at}
use Rattle.check_readings.proofs.Telling.{gets_wholes}
use Rattle.check_readings.proofs.selects.whole_select.Goals as goal

pub loop-process-preserved : goal.loop-process-preserved
loop-process-preserved c =
    let design = c.args.design.now in
    let n = c.loop-process.process-index in
    let process = c.process-item.result in
    let below : n < length design.processes.items = omega (arith, ap length c.deref-process-items.ensures.value) in
    let is : process ≡ get_or design.processes.items n process = cc (c.process-item.is, c.deref-process-items.ensures.value) in
    next_below (IsWholeSelect (flat design)) (whole_select_at (flat design)) amounts (flat design) n (task process) c.loop-process.found.items c.push_wholes.new.found.items (task_at design n process below is) c.loop-process.invariant
    (gets_wholes n (task process) c.loop-process.found.items c.push_wholes.new.found.items (flat design) (c.in_ok-push_wholes.ensures n))
