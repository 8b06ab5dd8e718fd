use Rattle.std.proofs.Common.{◌∙◌, ◌<◌, ◌≤◌, length, sym, arith}
use Rattle.rtl_flat.specs.Process.{task}
use Rattle.rtl_flat.specs.Flats.{flat}
use Rattle.check_assign.proofs.check_found_proofs.Sites.{task_at, task_count}
use Rattle.check_assign.proofs.Turns.{lower_none, task_of}
use Rattle.net_list.proofs.Below.{alone_all, alone_next, least_at, single, waiting}
use Rattle.net_list.proofs.alone.blocks.Goals as goal
use Rattle.net_list.proofs.alone.blocks.Goals.{else-again-via-then-again+else-not-waits, else-again-via-else-again}

pub loop-number-init : goal.loop-number-init
loop-number-init c =
    record {
      lower = λ s k. c.new-lower.ensures s k ∙ sym (lower_none (flat c.args.design.now) s k);
      alone = λ p below h. absurd (omega (arith, below));
    }

pub returns-then-not-waits-clause-least : goal.returns-then-not-waits-clause-least
returns-then-not-waits-clause-least c =
    let design = c.args.design.now in
    let n = c.loop-number.number in
    let process = c.index.result.now in
    let below : n < length design.processes.items = omega arith in
    least_at (flat design) n (task process) (task_at design n process below c.index.ensures) c.in_ok-again.again c.in_ok-again.ensures.again c.loop-number.invariant.alone c.if-again.true (sym c.waits.ensures ∙ c.if-not-waits.true)

pub loop-number-preserved : goal.loop-number-preserved
loop-number-preserved c =
    let design = c.args.design.now in
    let d = flat design in
    let n = c.loop-number.number in
    let below : n < length design.processes.items = omega arith in
    record {
      lower = c.in_ok-again.ensures.lower;
      alone = alone_next d n c.loop-number.invariant.alone (elim c.else-again.branch [
        | else-again-via-then-again+else-not-waits w ↦
            waiting d n (task w.index.result.now) (task_at design n w.index.result.now below w.index.ensures) c.in_ok-again.again c.in_ok-again.ensures.again (sym w.waits.ensures ∙ w.if-not-waits.false)
        | else-again-via-else-again w ↦
            let (one, there) = task_of design n below in
            single d n one there c.in_ok-again.again c.in_ok-again.ensures.again w.if-again.false
      ]);
    }

pub invariant_of-result : goal.invariant_of-result
invariant_of-result c =
    let design = c.args.design.now in
    let d = flat design in
    let count = task_count design in
    let past : length d.tasks ≤ c.loop-number.number = omega arith in
    record { alone = alone_all d c.loop-number.number c.loop-number.invariant.alone past }
