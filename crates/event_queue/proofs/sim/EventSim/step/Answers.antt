use Rattle.std.proofs.lemmas.Result.{IfOk-weaker}
use Rattle.event_model.specs.Policies.{IsDone}
use Rattle.event_queue.specs.Sims.{IsSame, flat_of, level_of, state_of}
use Rattle.event_queue.proofs.Running.{done_same}
use Rattle.event_queue.proofs.sim.EventSim.step.Goals as goal

pub returns-clause-done : goal.returns-clause-done
returns-clause-done c =
    let i = c.args.self.now in
    let o = c.offer.new.self in
    let s = state_of c.settle.new.self in
    let one = c.offer.ensures.same in
    let same : IsSame i o = record { fanout = one.fanout; levels = one.levels; costs = one.costs; budget = one.budget } in
    IfOk-weaker c.settle.result (λ _. IsDone c.args.policy (level_of o) (flat_of o) s) (λ _. IsDone c.args.policy (level_of i) (flat_of i) s)
    (λ _ done. done_same c.args.policy i o s same done) c.settle.ensures.done
