use Rattle.std.proofs.Common.{◌∙◌, ◌&&◌, ◌||◌, Bool, Option, Some, ap, sym, arith}
use Rattle.std.specs.Prelude.{◌==◌, nat_lt}
use Rattle.std.proofs.lemmas.List.{length-map}
use Rattle.rtl_flat.specs.Process.{Doing, doing, task}
use Rattle.event_model.specs.Queue.{doing_at, is_assignment}
use Rattle.rtl_flat.specs.Flats.{flat}
use Rattle.event_take.proofs.Taking.{doing_here}
use Rattle.event_queue.proofs.Starting.{all_of_them, one_more}
use Rattle.event_queue.proofs.first_queue.wake_assignments.Goals as goal

pub loop-number-preserved : goal.loop-number-preserved
loop-number-preserved c =
    let inv = c.loop-number.invariant in
    let d = flat c.args.design.now in
    let n = c.loop-number.number in
    let test = c.loop-number-test.true in
    let len = c.len-number-end.ensures in
    let fits = c.args.design.now.processes.ok.0 in
    let does = doing_here c.args.design.now.processes.items n c.index.result.now (omega (arith, test, len, fits)) c.index.ensures in (
      c.wake_if.ensures.size ∙ inv.0,
      c.wake_if.ensures.levels ∙ inv.1,
      λ p. c.wake_if.ensures.flags p
          ∙ ap (λ (b : Bool). b || ((p == n) && is_assignment (Some (doing c.index.result.now.does)))) (inv.2 p)
          ∙ ap (λ (o : Option Doing). (nat_lt p n && is_assignment (doing_at d p)) || ((p == n) && is_assignment o)) (sym does)
          ∙ one_more (λ q. is_assignment (doing_at d q)) n p,
    )

pub returns-clause-flags : goal.returns-clause-flags
returns-clause-flags c = λ p.
    let inv = c.loop-number.invariant in
    let past = c.loop-number-test.false in
    let len = c.len-number-end.ensures in
    let fits = c.args.design.now.processes.ok.0 in
    let count = length-map c.args.design.now.processes.items task in
    inv.2 p ∙ all_of_them (flat c.args.design.now) c.loop-number.number p (omega (arith, past, len, fits, count))
