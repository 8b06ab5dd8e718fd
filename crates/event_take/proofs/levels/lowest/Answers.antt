use Rattle.std.proofs.Common.{◌∙◌, Bool, cond, List, [], ◌∷◌, Some, ap}
use Rattle.event_model.specs.Queue.{Event, Delayed}
use Rattle.event_write.specs.QueueState.{design_of}
use Rattle.event_take.proofs.Marked.{input_is_lowest, late_is_lowest, none_is_lowest, update_is_lowest, woken_is_lowest}
use Rattle.event_take.proofs.levels.lowest.Goals as goal

pub returns-in-Some-clause-event : goal.returns-in-Some-clause-event
returns-in-Some-clause-event c =
    input_is_lowest (design_of c.args.fanout.now) c.args.queue.now c.in-Some.signal c.requires.queue c.requires.lawful c.in-Some.ensures.least

pub returns-in-Some-least-clause-event : goal.returns-in-Some-least-clause-event
returns-in-Some-least-clause-event c =
    update_is_lowest (design_of c.args.fanout.now) c.args.queue.now c.in-Some-least.process c.requires.queue c.requires.lawful c.in_default.ensures.least c.in-Some-least.ensures.least

pub returns-then-has_delayed-clause-event : goal.returns-then-has_delayed-clause-event
returns-then-has_delayed-clause-event c =
    late_is_lowest (design_of c.args.fanout.now) c.args.queue.now c.requires.queue c.requires.lawful c.in_default.ensures.least c.in_default-least.ensures.least (c.has_delayed.ensures.event ∙ ap (λ (b : Bool). cond {A = List Event} b (Delayed ∷ []) []) c.if-has_delayed.true)

pub returns-in_err-process-clause-event : goal.returns-in_err-process-clause-event
returns-in_err-process-clause-event c =
    rw c.from_residual.ensures (none_is_lowest (design_of c.args.fanout.now) c.args.queue.now c.requires.queue c.requires.lawful c.in_default.ensures.least c.in_default-least.ensures.least (c.has_delayed.ensures.event ∙ ap (λ (b : Bool). cond {A = List Event} b (Delayed ∷ []) []) c.if-has_delayed.false) c.in_err-process.ensures.lowest)

pub returns-clause-event : goal.returns-clause-event
returns-clause-event c =
    ap Some c.woken_choice.ensures.event
    ∙ woken_is_lowest (design_of c.args.fanout.now) c.args.queue.now c.in_ok-process.process c.requires.queue c.requires.lawful c.in_default.ensures.least c.in_default-least.ensures.least (c.has_delayed.ensures.event ∙ ap (λ (b : Bool). cond {A = List Event} b (Delayed ∷ []) []) c.if-has_delayed.false) c.in_ok-process.ensures.lowest
