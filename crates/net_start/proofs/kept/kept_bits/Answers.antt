use Rattle.std.proofs.Common.{◌∙◌, ◌<◌, ◌||◌, length, sym, ap, arith}
use Rattle.rtl_flat.specs.Flats.{flat}
use Rattle.check_found.proofs.Sites.{task_count}
use Rattle.net_start.specs.Kept.{kept_by}
use Rattle.net_start.proofs.Keeping.{kept_next, there_is}
use Rattle.net_start.proofs.kept.kept_bits.Goals as goal

pub loop-number-preserved : goal.loop-number-preserved
loop-number-preserved c = λ s k.
    let design = c.args.design.now in
    let d = flat design in
    let n = c.loop-number.number in
    let inside : n < length design.processes.items = omega arith in
    let count = task_count design in
    let below : n < length d.tasks = omega (arith, inside, count) in
    let (one, there) = there_is d.tasks n below in
    c.in_ok-add_kept.ensures s k
    ∙ (ap (λ b. b || kept_by d n s k) (c.loop-number.invariant s k) ∙ sym (kept_next d n one there s k))
