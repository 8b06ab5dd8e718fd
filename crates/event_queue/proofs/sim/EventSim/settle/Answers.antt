use Rattle.std.proofs.Common.{◌∙◌}
use Rattle.event_take.specs.Taken.{event_of}
use Rattle.event_queue.specs.Sims.{IsSame, flat_of, left_of, level_of, state_of}
use Rattle.event_queue.proofs.Running.{no_run, run_more, same_again, still_same}
use Rattle.event_queue.proofs.sim.EventSim.settle.Goals as goal

pub loop-choice-init : goal.loop-choice-init
loop-choice-init c =
    let i = c.args.self.now in
    (still_same i, c.requires.free, no_run c.args.policy (level_of i) (flat_of i) (state_of i) (left_of i))

pub loop-choice-preserved : goal.loop-choice-preserved
loop-choice-preserved c =
    let inv = c.loop-choice.invariant in
    let i = c.args.self.now in
    let s = c.loop-choice.self in
    let t = c.take_paid.new.self in
    let one = c.take_paid.ensures.same in
    let same : IsSame s t = record { fanout = one.fanout; levels = one.levels; costs = one.costs; budget = one.budget } in (
      same_again i s t inv.0 same,
      c.take_paid.ensures.stuck ∙ inv.1,
      run_more c.args.policy i s t (state_of i) (left_of i) (event_of c.in-Some.choice) inv.0 inv.2 c.in-Some.ensures.event c.take_paid.ensures.state c.take_paid.ensures.left,
    )
