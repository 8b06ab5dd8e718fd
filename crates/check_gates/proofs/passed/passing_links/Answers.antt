use Rattle.std.proofs.Common.{◌≡◌, length, subst, arith}
use Rattle.rtl_flat.specs.Flats.{flat}
use Rattle.check_chains.proofs.check_found_proofs.Sites.{task_count}
use Rattle.check_gates.specs.Passed.{ArePassing}
use Rattle.check_gates.proofs.Waiting.{passing_next, task_there}
use Rattle.check_gates.proofs.passed.passing_links.Goals as goal

pub loop-number-preserved : goal.loop-number-preserved
loop-number-preserved c =
    let d = flat c.args.scans.now.design.now in
    let n = c.loop-number.number in
    let (task, there) = task_there c.args.scans.now.design.now n (omega arith) in
    passing_next d n task c.loop-number.links.items c.push_passing.new.links.items there c.loop-number.invariant (c.in_ok-push_passing.ensures task there)

pub returns : goal.returns
returns c =
    let d = flat c.args.scans.now.design.now in
    let count = task_count c.args.scans.now.design.now in
    let same : c.loop-number.number ≡ length d.tasks = omega (arith, count) in
    subst (λ n. ArePassing d n c.loop-number.links.items) same c.loop-number.invariant
