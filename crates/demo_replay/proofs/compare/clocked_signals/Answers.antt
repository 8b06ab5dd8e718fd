use Rattle.std.proofs.Common.{◌∙◌, ◌<◌, ◌+◌, List, Bool, length, sym, subst, arith}
use Rattle.rtl_flat.specs.Process.{task}
use Rattle.rtl_flat.specs.Flats.{flat}
use Rattle.netlist_eval.proofs.check_gates_proofs.Waiting.{written}
use Rattle.netlist_eval.proofs.check_found_proofs.Sites.{task_at}
use Rattle.demo_replay.specs.Tables.{AreClockedBelow, MarksWritten}
use Rattle.demo_replay.proofs.Marking.{clocked_next, unclocked_next}
use Rattle.demo_replay.proofs.compare.clocked_signals.Goals as goal
use Rattle.demo_replay.proofs.compare.clocked_signals.Goals.{then-waits+in_ok-mark_written, else-waits}

pub loop-number-preserved : goal.loop-number-preserved
loop-number-preserved c =
    let d = flat c.args.design.now in
    let n = c.loop-number.number in
    let process = c.index.result.now in
    let test = c.loop-number-test.true in
    let fits = c.args.design.now.processes.ok.0 in
    let inside : n < length c.args.design.now.processes.items = omega (arith, test, fits, c.len-number-end.ensures) in
    let there = task_at c.args.design.now n process inside c.index.ensures in
    let old = c.loop-number.marks in
    elim c.if-waits.branch [
      | then-waits+in_ok-mark_written w ↦
          let marks = w.mark_written.new.marks in
          let made : MarksWritten d n old.items marks = subst (λ (xs : List Bool). MarksWritten d n xs marks) w.deref_mut.ensures.value w.in_ok-mark_written.ensures in
          let next = clocked_next d n (task process) old.items marks there (sym c.waits.ensures ∙ w.if-waits.true) c.loop-number.invariant made in
          let whole = written old.len marks old.items old.ok.0 made.count in
          subst (λ (v : _). AreClockedBelow d (n + 1) v.items) (sym w.marks-is)
          (subst (λ (xs : List Bool). AreClockedBelow d (n + 1) xs) (sym whole) next)
      | else-waits w ↦
          subst (λ (v : _). AreClockedBelow d (n + 1) v.items) (sym w.marks-is)
          (unclocked_next d n (task process) old.items there (sym c.waits.ensures ∙ w.if-waits.false) c.loop-number.invariant)
    ]
