use Rattle.std.proofs.Common.{◌∙◌, Bool, true, false, cond, List, [], ◌∷◌, Some, ap}
use Rattle.event_model.specs.Queue.{Event, Delayed}
use Rattle.event_write.specs.QueueState.{design_of}
use Rattle.event_take.proofs.Marked.{input_is_first, late_is_first, update_is_first, woken_is_first}
use Rattle.event_take.proofs.ends.first.Goals as goal

pub returns-in-Some-clause-event : goal.returns-in-Some-clause-event
returns-in-Some-clause-event c =
    input_is_first (design_of c.args.fanout.now) c.args.queue.now c.in-Some.signal c.requires.queue c.requires.lawful c.in-Some.ensures.least

pub returns-in-Some-least-clause-event : goal.returns-in-Some-least-clause-event
returns-in-Some-least-clause-event c =
    update_is_first (design_of c.args.fanout.now) c.args.queue.now c.in-Some-least.process c.requires.queue c.requires.lawful c.in_default.ensures.least c.in-Some-least.ensures.least

pub returns-in-Some-least-2-clause-event : goal.returns-in-Some-least-2-clause-event
returns-in-Some-least-2-clause-event c =
    ap Some c.woken_choice.ensures.event
    ∙ woken_is_first (design_of c.args.fanout.now) c.args.queue.now c.in-Some-least-2.process c.requires.queue c.requires.lawful c.in_default.ensures.least c.in_default-least.ensures.least c.in-Some-least-2.ensures.least

pub returns-then-has_delayed-clause-event : goal.returns-then-has_delayed-clause-event
returns-then-has_delayed-clause-event c =
    late_is_first (design_of c.args.fanout.now) c.args.queue.now true c.requires.queue c.requires.lawful c.in_default.ensures.least c.in_default-least.ensures.least c.in_default-least-2.ensures.least (c.has_delayed.ensures.event ∙ ap (λ (b : Bool). cond {A = List Event} b (Delayed ∷ []) []) c.if-has_delayed.true)

pub returns-clause-event : goal.returns-clause-event
returns-clause-event c =
    late_is_first (design_of c.args.fanout.now) c.args.queue.now false c.requires.queue c.requires.lawful c.in_default.ensures.least c.in_default-least.ensures.least c.in_default-least-2.ensures.least (c.has_delayed.ensures.event ∙ ap (λ (b : Bool). cond {A = List Event} b (Delayed ∷ []) []) c.if-has_delayed.false)
