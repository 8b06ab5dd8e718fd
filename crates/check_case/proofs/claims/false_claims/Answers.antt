use Rattle.std.proofs.Common.{◌≡◌, ◌<◌, length, get_or, ap, arith}
use Rattle.rtl_flat.specs.Process.{task}
use Rattle.rtl_rule.specs.Parts.{statements}
use Rattle.rtl_flat.specs.Flats.{flat}
use Rattle.check_found.proofs.Sites.{next_below, task_at}
use Rattle.check_case.specs.Claims.{IsFalse, claim_at}
use Rattle.check_case.proofs.claims.false_claims.Goals as goal

pub loop-process-preserved : goal.loop-process-preserved
loop-process-preserved c =
    let design = c.args.design.now in
    let d = flat design in
    let n = c.loop-process.process-index in
    let process = c.process-item.result in
    let below : n < length design.processes.items = omega (arith, ap length c.deref-process-items.ensures.value) in
    let is : process ≡ get_or design.processes.items n process = cc (c.process-item.is, c.deref-process-items.ensures.value) in
    next_below (IsFalse d c.args.claim) (claim_at d c.args.claim) statements d n (task process) c.loop-process.found.items c.push_claims.new.found.items (task_at design n process below is) c.loop-process.invariant (c.in_ok-push_claims.ensures n)
