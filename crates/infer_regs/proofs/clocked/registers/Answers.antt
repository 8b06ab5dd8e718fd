use Rattle.std.proofs.Common.{◌≡◌, ◌∙◌, ◌<◌, ◌≤◌, ◌+◌, true, length, sym, subst, arith}
use Rattle.std.specs.Option.{IsSomeAnd}
use Rattle.rtl_flat.specs.Process.{Task, task}
use Rattle.rtl_rule.specs.declared.rule.Rule.TheVariants.{SeveralDrivers}
use Rattle.rtl_flat.specs.Flats.{flat}
use Rattle.net_list.proofs.check_found_proofs.Sites.{task_at, task_count}
use Rattle.rtl_rule.specs.Parts.{is_clocked}
use Rattle.net_list.proofs.check_assign_proofs.Turns.{lower_none}
use Rattle.infer_regs.specs.Taken.{AreTaken, IsBroken, Takes}
use Rattle.infer_regs.proofs.Judging.{refuted}
use Rattle.infer_regs.proofs.Taking.{all_clocked, all_formed, least_at, taken_more, taken_none, taken_pass}
use Rattle.infer_regs.proofs.clocked.registers.Goals as goal
use Rattle.infer_regs.proofs.clocked.registers.Goals.{then-again-via-then-again, then-again-via-else-again+in_ok-take+then-not-branch, then-waits+else-again+in_ok-take+else-not-branch, else-waits}

pub loop-number-init : goal.loop-number-init
loop-number-init c =
    let d = flat c.args.design.now in
    record {
      lower = λ s k. c.new-lower.ensures s k ∙ sym (lower_none d s k);
      taken = taken_none d c.new-clocked.result.items c.new-clocked.ensures.items;
    }

pub take-requires-clause-waits : goal.take-requires-clause-waits
take-requires-clause-waits c =
    let design = c.args.design.now in
    let n = c.loop-number.number in
    let below : n < length design.processes.items = omega arith in
    subst (λ o. IsSomeAnd o (λ (one : Task). is_clocked one.does ≡ true)) (sym (task_at design n c.index.result.now below c.index.ensures)) (sym c.waits.ensures ∙ c.if-waits.true)

pub returns-then-again-clause-least : goal.returns-then-again-clause-least
returns-then-again-clause-least c =
    let design = c.args.design.now in
    let d = flat design in
    let n = c.loop-number.number in
    let below : n < length design.processes.items = omega arith in
    let x = c.index.result.now in
    let old = c.loop-number.clocked.items in
    let broken : IsBroken d n = elim c.then-again.branch [
      | then-again-via-then-again w ↦ (SeveralDrivers, c.in_ok-again.ensures.again.0 w.if-again.true)
      | then-again-via-else-again+in_ok-take+then-not-branch w ↦
          subst (λ b. Takes d n b old w.take.new.clocked.items) w.if-not-branch.true w.in_ok-take.ensures
    ] in
    least_at d n (task x) (task_at design n x below c.index.ensures) old c.loop-number.invariant.taken (sym c.waits.ensures ∙ c.if-waits.true) broken

pub loop-number-preserved : goal.loop-number-preserved
loop-number-preserved c =
    let design = c.args.design.now in
    let d = flat design in
    let n = c.loop-number.number in
    let below : n < length design.processes.items = omega arith in
    let x = c.index.result.now in
    let there = task_at design n x below c.index.ensures in
    let old = c.loop-number.clocked.items in
    record {
      lower = c.in_ok-again.ensures.lower;
      taken = elim c.if-waits.branch [
        | then-waits+else-again+in_ok-take+else-not-branch w ↦
            subst (λ (v : _). AreTaken d (n + 1) v.items) (sym w.clocked-is)
            (taken_more d n (task x) there old w.take.new.clocked.items c.loop-number.invariant.taken (sym c.waits.ensures ∙ w.if-waits.true)
            (subst (λ b. Takes d n b old w.take.new.clocked.items) w.if-not-branch.false w.in_ok-take.ensures)
            (refuted c.in_ok-again.again c.in_ok-again.ensures.again w.if-again.false))
        | else-waits w ↦
            subst (λ (v : _). AreTaken d (n + 1) v.items) (sym w.clocked-is)
            (taken_pass d n (task x) there old c.loop-number.invariant.taken (sym c.waits.ensures ∙ w.if-waits.false))
      ];
    }

pub invariant_of-result : goal.invariant_of-result
invariant_of-result c =
    let design = c.args.design.now in
    let d = flat design in
    let count = task_count design in
    let n = c.loop-number.number in
    let past : length d.tasks ≤ n = omega arith in
    record {
      formed = all_formed d n c.loop-number.clocked.items c.loop-number.invariant.taken past;
      chosen = ∣ all_clocked d n c.loop-number.clocked.items c.loop-number.invariant.taken past ∣₁;
    }
